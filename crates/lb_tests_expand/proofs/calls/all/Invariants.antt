use Rattle.lb_tests_expand.specs.Standings.{Stands}
use Rattle.lb_tests_expand.proofs.calls.all.Given as goal

abbrev pub invariant-loop : goal.invariant-loop
invariant-loop g l = Stands g.C.Cells l.feeder
