use Rattle.std.proofs.Common.{◌≡◌, ◌-◌, length}
use Rattle.lb_model.specs.Settings.{Setting}
use Rattle.lb_tests_text.proofs.changes.make_changes.Given as goal

abbrev pub invariant-loop-from : goal.invariant-loop-from
invariant-loop-from g l = ((p : Setting) → g.C.Cells.agrees l.cells p → g.C.Cells.agrees l.fn.cells p) × ((p : Setting) → g.C.Cells.agrees l.cells p → length (g.C.Cells.meaning l.cells p).saves ≡ length (g.C.Cells.meaning l.fn.cells p).saves)

abbrev pub decreases-loop-from : goal.decreases-loop-from
decreases-loop-from g l = length l.parts - l.from
