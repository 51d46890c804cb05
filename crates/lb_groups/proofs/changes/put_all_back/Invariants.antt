use Rattle.std.proofs.Common.{◌≡◌}
use Rattle.std.specs.Option.{option_map}
use Rattle.lb_model.specs.Settings.{Setting}
use Rattle.lb_model.specs.Stacked.{undone_by}
use Rattle.lb_groups.specs.Open.{noted_undo_by}
use Rattle.lb_groups.proofs.changes.put_all_back.Given as goal

abbrev pub invariant-loop-i : goal.invariant-loop-i
invariant-loop-i g l =
    let C = g.C.Cells in
    record {
      narrows : (p : Setting) → C.agrees l.cells p → C.agrees l.fn.cells p;
      tells_nothing : (p : Setting) → C.agrees l.fn.cells p → C.agrees l.cells p;
      undone : (p : Setting) → C.agrees l.cells p → C.meaning l.cells p ≡ undone_by l._i (C.meaning l.fn.cells p);
      notes : C.notes l.cells ≡ option_map (noted_undo_by l._i) (C.notes l.fn.cells);
      made : C.made l.cells ≡ C.made l.fn.cells;
      loan : C.loan l.cells ≡ C.loan l.fn.cells;
    }
