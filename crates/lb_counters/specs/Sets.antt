-- A call that sets cells, one after another, and tells nothing. What is now stands before what was.
use Rattle.std.specs.Prelude.{◌≡◌, length, List, Result, OnOk}
use Rattle.std.specs.Option.{option_map}
use Rattle.lb_values.specs.declared.cell.Cell.{Cell}
use Rattle.lb_values.specs.declared.value.Value.{Value}
use Rattle.lb_model.specs.declared.cells.Cells.{Ghosts}
use Rattle.lb_model.specs.Settings.{Setting}
use Rattle.lb_model_counters.specs.Effects.{all_changed, changes_noted}

pub record Sets {S X E : Type 0} (C : Ghosts S) (changes : List (Cell × Value)) (result : Result X E) (new old : S) : Type 0 where
  pub narrows : (p : Setting) → C.agrees new p → C.agrees old p
  pub changed : OnOk result ((p : Setting) → C.agrees new p → C.meaning new p ≡ all_changed changes (C.meaning old p))
  pub notes : OnOk result (C.notes new ≡ option_map (changes_noted changes) (C.notes old))
  pub saves : (p : Setting) → C.agrees new p → length (C.meaning new p).saves ≡ length (C.meaning old p).saves
  pub made : C.made new ≡ C.made old
  pub loan : C.loan new ≡ C.loan old
