use Rattle.std.proofs.Common.{◌≡◌, ℕ, drop, length}
use Rattle.std.specs.Option.{option_map}
use Rattle.lb_model.specs.Settings.{Setting}
use Rattle.lb_model_counters.specs.Counters.{zeros}
use Rattle.lb_model_counters.specs.Effects.{all_changed, changes_noted}
use Rattle.lb_counters.proofs.changes.reset_all.Given as goal

-- what is set from here on gives what all give
abbrev pub invariant-loop-name : goal.invariant-loop-name
invariant-loop-name g l =
    let C = g.C.Cells in
    let left = λ (at : ℕ). zeros (drop at l.names) in
    record {
      narrows : (p : Setting) → C.agrees l.cells p → C.agrees l.fn.cells p;
      changed : (p : Setting) → C.agrees l.cells p
          → all_changed (left l.name-index) (C.meaning l.cells p) ≡ all_changed (zeros l.names) (C.meaning l.fn.cells p);
      notes : option_map (changes_noted (left l.name-index)) (C.notes l.cells) ≡ option_map (changes_noted (zeros l.names)) (C.notes l.fn.cells);
      saves : (p : Setting) → C.agrees l.cells p → length (C.meaning l.cells p).saves ≡ length (C.meaning l.fn.cells p).saves;
      made : C.made l.cells ≡ C.made l.fn.cells;
      loan : C.loan l.cells ≡ C.loan l.fn.cells;
    }
