use Rattle.lb_tests_expand.specs.Standings.{Stands}
use Rattle.lb_tests_expand.proofs.cases.run.Given as goal

abbrev pub invariant-loop-word : goal.invariant-loop-word
invariant-loop-word g l = Stands g.C.Cells l.feeder
