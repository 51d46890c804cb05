use Rattle.std.proofs.Common.{◌≡◌, false}
use Rattle.std.specs.Prelude.{None}
use Rattle.lb_board.specs.Seats.{IsSeatOf, seat_view}
use Rattle.lb_tests_board.proofs.many.show.Given as goal

abbrev pub invariant-loop : goal.invariant-loop
invariant-loop l = record {
  seat : IsSeatOf l.board l.seat;
  held : (seat_view l.seat).held ≡ None;
  going : ((seat_view l.seat).no_more ≡ false) × ((seat_view l.seat).halted ≡ false);
}
