-- What the program keeps of a seat.
use Rattle.std.specs.Prelude.{◌≡◌, ℕ, true, false}
use Rattle.lb_board.specs.declared.board.Board.{Board}
use Rattle.lb_board.specs.Seats.{IsSeatOf, seat_view}
use Rattle.lb_tests_board.specs.declared.values.FromOwn.{FromOwn}
use Rattle.lb_tests_board.specs.declared.worker.Worker.{Worker}

-- its seat is one of this board, and what it keeps is so
pub record IsWorkerOf (b : Board ℕ FromOwn) (w : Worker) : Type 0 where
  pub seat : IsSeatOf b w.seat
  pub held : (seat_view w.seat).held ≡ w.held
  pub draws : w.draws ≡ true → ((seat_view w.seat).no_more ≡ false) × ((seat_view w.seat).halted ≡ false)
  pub allowance : (seat_view w.seat).allowance ≡ w.allowance
