use Rattle.std.proofs.Common.{◌≤◌, length}
use Rattle.lb_model.specs.Settings.{Setting}
use Rattle.lb_tests_record.proofs.sequences.run_all.Given as goal

abbrev pub invariant-loop-step : goal.invariant-loop-step
invariant-loop-step g l = (p : Setting) → g.C.Cells.agrees l.cells p → l.saves ≤ length (g.C.Cells.meaning l.cells p).saves
