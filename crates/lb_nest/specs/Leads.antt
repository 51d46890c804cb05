-- What calls over cells, groups and a nest do, by what is done in whole configurations and what is noted there. What is now stands before what
-- was.
use Rattle.std.specs.Prelude.{◌≡◌, ◌≤◌, ℕ, List, Option, Result, IfOk, OnOk}
use Rattle.std.specs.Option.{option_map}
use Rattle.lb_values.specs.declared.cell.Cell.{Cell}
use Rattle.lb_model.specs.declared.cells.Cells.{Ghosts}
use Rattle.lb_model.specs.declared.group.Group.{Group}
use Rattle.lb_model.specs.declared.place.Place.{Place}
use Rattle.lb_model.specs.Settings.{Setting}
use Rattle.lb_model.specs.Stacked.{looked_all, stacked_notes}
use Rattle.lb_model_nest.specs.declared.turn.Went.{Went}
use Rattle.lb_model_nest.specs.Wholes.{Executed, Whole, executed}
use Rattle.lb_nest.specs.Views.{Keeps, anywhere, at_place, whole}
use Rattle.lb_nest.specs.declared.nest.Nest.{Nest}

-- what one comes to by this, the other comes to by the rest, with each of these rests of the configuration
pub record Passes {S : Type 0} (C : Ghosts S) (of : Whole → Type 0) (act rest : Whole → Executed) (new : S) (groups_new : List Group) (left_new : ℕ) (nest_new : Nest) (old : S) (groups_old : List Group) (left_old : ℕ) (nest_old : Nest) : Type 0 where
  pub done : (w : Whole) (p : Setting) → of w → C.agrees new p → (act (whole w p (C.meaning old p) groups_old left_old nest_old)).done ≡ (rest (whole w p (C.meaning new p) groups_new left_new nest_new)).done
  pub notes : (w : Whole) (p : Setting) → of w → C.agrees new p
      → (act (whole w p (C.meaning old p) groups_old left_old nest_old)).noted (stacked_notes groups_old (C.notes old))
      ≡ (rest (whole w p (C.meaning new p) groups_new left_new nest_new)).noted (stacked_notes groups_new (C.notes new))

-- a call whose value tells the rest
pub record Leads {S E X : Type 0} (C : Ghosts S) (of : Whole → Type 0) (act : Whole → Executed) (rest : X → Whole → Executed) (result : Result X E) (new : S) (groups_new : List Group) (left_new : ℕ) (nest_new : Nest) (old : S) (groups_old : List Group) (left_old : ℕ) (nest_old : Nest) : Type 0 where
  pub narrows : (p : Setting) → C.agrees new p → C.agrees old p
  pub passes : IfOk result (λ x. Passes C of act (rest x) new groups_new left_new nest_new old groups_old left_old nest_old)
  pub keeps : OnOk result ((p : Setting) → C.agrees new p → Keeps p (C.meaning new p) groups_new nest_new)
  pub left : left_new ≤ left_old
  pub made : C.made new ≡ C.made old
  pub loan : C.loan new ≡ C.loan old

-- a call that does this, anywhere and at a place
abbrev pub Goes : {S E : Type 0} → Ghosts S → (Whole → Executed) → Result Went E → S → List Group → ℕ → Nest → S → List Group → ℕ → Nest → Type 0
Goes C act result new groups_new left_new nest_new old groups_old left_old nest_old =
    Leads C anywhere act executed result new groups_new left_new nest_new old groups_old left_old nest_old

abbrev pub GoesAt : {S E : Type 0} → Ghosts S → Option Place → (Whole → Executed) → Result Went E → S → List Group → ℕ → Nest → S → List Group → ℕ → Nest → Type 0
GoesAt C place act result new groups_new left_new nest_new old groups_old left_old nest_old =
    Leads C (at_place place) act executed result new groups_new left_new nest_new old groups_old left_old nest_old

-- a call that looks at cells for a value of the configuration
pub record Looks {S E X : Type 0} (C : Ghosts S) (groups : List Group) (cells : List Cell) (f : Whole → X) (result : Result X E) (new old : S) : Type 0 where
  pub narrows : (p : Setting) → C.agrees new p → C.agrees old p
  pub value : IfOk result (λ v. (p : Setting) → C.agrees new p → (w : Whole) (left : ℕ) (nest : Nest) → f (whole w p (C.meaning old p) groups left nest) ≡ v)
  pub stays : (p : Setting) → C.agrees new p → C.meaning new p ≡ C.meaning old p
  pub notes : OnOk result (stacked_notes groups (C.notes new) ≡ option_map (looked_all cells) (stacked_notes groups (C.notes old)))
  pub made : C.made new ≡ C.made old
  pub loan : C.loan new ≡ C.loan old
