-- What calls over a nest alone do. What is now stands before what was.
use Rattle.std.specs.Prelude.{◌≡◌, ◌≤◌, ℕ, List, Result, IfOk}
use Rattle.lb_values.specs.declared.value.Value.{Value}
use Rattle.lb_values.specs.Kept.{Kept}
use Rattle.lb_model.specs.declared.group.Group.{Group}
use Rattle.lb_model.specs.Settings.{Setting}
use Rattle.lb_model_nest.specs.Wholes.{Executed, Whole}
use Rattle.lb_nest.specs.Views.{whole}
use Rattle.lb_nest.specs.declared.nest.Nest.{Nest}

-- what one nest comes to by this, the other comes to by the rest, with whatever the cells hold; the fonts that are kept stay
pub record Works {E X : Type 0} (act : Whole → Executed) (rest : X → Whole → Executed) (result : Result X E) (left_new : ℕ) (nest_new : Nest) (left_old : ℕ) (nest_old : Nest) : Type 0 where
  pub works : IfOk result (λ x. (w : Whole) (p : Setting) (k : Kept Value) (g : List Group) → act (whole w p k g left_old nest_old) ≡ rest x (whole w p k g left_new nest_new))
  pub shelf : nest_new.shelf ≡ nest_old.shelf
  pub left : left_new ≤ left_old
