use Rattle.lb_model.specs.Settings.{Setting}
use Rattle.lb_model.specs.Stacked.{Standing}
use Rattle.lb_tests_scan.proofs.sequences.run_all.Given as goal

abbrev pub invariant-loop-place : goal.invariant-loop-place
invariant-loop-place g l = (p : Setting) → g.C.Cells.agrees l.cells p → Standing l.groups (g.C.Cells.meaning l.cells p)
