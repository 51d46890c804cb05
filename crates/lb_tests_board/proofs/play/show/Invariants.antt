use Rattle.std.specs.List.{All}
use Rattle.lb_tests_board.specs.Workers.{IsWorkerOf}
use Rattle.lb_tests_board.proofs.play.show.Given as goal

abbrev pub invariant-loop-place : goal.invariant-loop-place
invariant-loop-place l = All (IsWorkerOf l.board) l.workers.items
