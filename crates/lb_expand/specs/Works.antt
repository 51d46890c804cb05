-- What calls over a desk do, by what is done in a configuration and what is noted there. What is now stands before what was.
use Rattle.std.specs.Prelude.{◌≡◌, Option, Result, IfOk}
use Rattle.lb_values.specs.declared.value.Value.{Value}
use Rattle.lb_values.specs.Kept.{Kept}
use Rattle.lb_model.specs.Configs.{Config}
use Rattle.lb_model.specs.Settings.{Notes}
use Rattle.lb_model.specs.Stacked.{stacked_notes}
use Rattle.lb_model.specs.declared.world.World.{World}
use Rattle.lb_model_expansion.specs.Steps.{Performed, performed}
use Rattle.lb_model_expansion.specs.declared.expansion.Went.{Went}
use Rattle.lb_expand.specs.Views.{config}
use Rattle.lb_expand.specs.declared.desk.Desk.{Desk}

-- what one desk comes to by this, the other comes to by the rest, whatever the cells hold; the groups stay as they are
pub record Leads (act rest : Config → Performed) (new old : Desk) : Type 0 where
  pub done : (w : World) (k : Kept Value) → (act (config w k old)).done ≡ (rest (config w k new)).done
  pub notes : (w : World) (k : Kept Value) (n : Option Notes) → (act (config w k old)).noted (stacked_notes old.groups n) ≡ (rest (config w k new)).noted (stacked_notes new.groups n)
  pub groups : new.groups ≡ old.groups

-- a call over a desk alone that does this
abbrev pub Works : {E : Type 0} → (Config → Performed) → Result Went E → Desk → Desk → Type 0
Works act result new old = IfOk result (λ went. Leads act (performed went) new old)
