-- What calls over a feeder do, by what is done in a configuration and what is noted there. What is now stands before what was.
use Rattle.std.specs.Prelude.{◌≡◌, Result, IfOk}
use Rattle.lb_model.specs.declared.cells.Cells.{Ghosts}
use Rattle.lb_model.specs.Configs.{Config}
use Rattle.lb_model.specs.Settings.{Setting}
use Rattle.lb_model.specs.Stacked.{Standing, stacked_notes}
use Rattle.lb_model_expansion.specs.Steps.{Performed, performed}
use Rattle.lb_model_expansion.specs.declared.expansion.Went.{Went}
use Rattle.lb_expand.specs.Views.{config}
use Rattle.lb_expand.specs.declared.desk.Desk.{Desk}

-- what one comes to by this, the other comes to by the rest
pub record Passes {S : Type 0} (C : Ghosts S) (act rest : Config → Performed) (new : S) (desk_new : Desk) (old : S) (desk_old : Desk) : Type 0 where
  pub done : (p : Setting) → C.agrees new p → (act (config p.world (C.meaning old p) desk_old)).done ≡ (rest (config p.world (C.meaning new p) desk_new)).done
  pub notes : (p : Setting) → C.agrees new p → (act (config p.world (C.meaning old p) desk_old)).noted (stacked_notes desk_old.groups (C.notes old)) ≡ (rest (config p.world (C.meaning new p) desk_new)).noted (stacked_notes desk_new.groups (C.notes new))
  pub standing : (p : Setting) → C.agrees new p → Standing desk_old.groups (C.meaning old p) → Standing desk_new.groups (C.meaning new p)

-- a call over cells and a desk that does this
pub record Performs {S E : Type 0} (C : Ghosts S) (act : Config → Performed) (result : Result Went E) (new : S) (desk_new : Desk) (old : S) (desk_old : Desk) : Type 0 where
  pub narrows : (p : Setting) → C.agrees new p → C.agrees old p
  pub passes : IfOk result (λ went. Passes C act (performed went) new desk_new old desk_old)
  pub made : C.made new ≡ C.made old
  pub loan : C.loan new ≡ C.loan old
