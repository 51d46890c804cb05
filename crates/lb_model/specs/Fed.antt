-- What calls over a feed do and keep. In each of these words what is now stands before what was.
use Rattle.std.specs.Prelude.{◌≡◌, List, Result, IfOk, IfErr}
use Rattle.lb_base.specs.declared.fault.Stop.{Stop}
use Rattle.lb_values.specs.declared.cell.Cell.{Cell}
use Rattle.lb_model.specs.Configs.{Config}
use Rattle.lb_model.specs.Readings.{Took, failed, noting, whole}
use Rattle.lb_model.specs.Settings.{Setting}
use Rattle.lb_model.specs.Stops.{MayStopAt}
use Rattle.lb_model.specs.declared.feed.Feed.{Ghosts}

-- a call over a feed that only takes tokens, or puts back what it took: what it reads, and the cells that it looks at for that, which are told;
-- also where it ends in a fault
pub record Reads {S X : Type 0} (F : Ghosts S) (took : Config → Took X) (looks : Config → List Cell) (result : Result X Stop) (new old : S) : Type 0 where
  pub narrows : (p : Setting) → F.agrees new p → F.agrees old p
  pub ok : IfOk result (λ x. (p : Setting) → F.agrees new p → noting took looks (F.configuration old p) (F.notes old) ≡ record { took = whole x (F.configuration new p); notes = F.notes new })
  pub fault : IfErr result (λ e. MayStopAt e (λ k. (p : Setting) → F.agrees new p → noting took looks (F.configuration old p) (F.notes old) ≡ record { took = failed k (F.configuration new p); notes = F.notes new }))
  pub stands : (p : Setting) → F.agrees new p → F.stands old p → F.stands new p
  pub origin : F.origin new ≡ F.origin old
