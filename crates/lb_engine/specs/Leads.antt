-- What calls over cells and an engine do, by what is done in whole configurations and what is noted there. What is now stands before what was.
use Rattle.std.specs.Prelude.{◌≡◌, Result, IfOk, OnOk}
use Rattle.lb_model.specs.declared.cells.Cells.{Ghosts}
use Rattle.lb_model.specs.Settings.{Setting}
use Rattle.lb_model.specs.Stacked.{stacked_notes}
use Rattle.lb_model_nest.specs.declared.turn.Went.{Went}
use Rattle.lb_model_nest.specs.Wholes.{Executed, Whole, executed}
use Rattle.lb_nest.specs.Views.{Keeps}
use Rattle.lb_engine.specs.Views.{whole}
use Rattle.lb_engine.specs.declared.engine.Engine.{Engine}

-- what one comes to by this, the other comes to by the rest
pub record Passes {S : Type 0} (C : Ghosts S) (act rest : Whole → Executed) (new : S) (engine_new : Engine) (old : S) (engine_old : Engine) : Type 0 where
  pub done : (p : Setting) → C.agrees new p → (act (whole p (C.meaning old p) engine_old)).done ≡ (rest (whole p (C.meaning new p) engine_new)).done
  pub notes : (p : Setting) → C.agrees new p
      → (act (whole p (C.meaning old p) engine_old)).noted (stacked_notes engine_old.desk.groups (C.notes old))
      ≡ (rest (whole p (C.meaning new p) engine_new)).noted (stacked_notes engine_new.desk.groups (C.notes new))

-- a call whose value tells the rest
pub record Leads {S E X : Type 0} (C : Ghosts S) (act : Whole → Executed) (rest : X → Whole → Executed) (result : Result X E) (new : S) (engine_new : Engine) (old : S) (engine_old : Engine) : Type 0 where
  pub narrows : (p : Setting) → C.agrees new p → C.agrees old p
  pub passes : IfOk result (λ x. Passes C act (rest x) new engine_new old engine_old)
  pub keeps : OnOk result ((p : Setting) → C.agrees new p → Keeps p (C.meaning new p) engine_new.desk.groups engine_new.nest)
  pub made : C.made new ≡ C.made old
  pub loan : C.loan new ≡ C.loan old

-- a call that does this
abbrev pub Goes : {S E : Type 0} → Ghosts S → (Whole → Executed) → Result Went E → S → Engine → S → Engine → Type 0
Goes C act result new engine_new old engine_old = Leads C act executed result new engine_new old engine_old

-- as many saves stand as the open groups have made, and the fonts that are kept are right
abbrev pub Holds : {S : Type 0} → Ghosts S → S → Engine → Type 0
Holds C s e = (p : Setting) → C.agrees s p → Keeps p (C.meaning s p) e.desk.groups e.nest
