-- What an assignment inside groups does and keeps. What is now stands before what was.
use Rattle.std.specs.Prelude.{◌≡◌, true, List, Option, None, Result, IfErr, OnOk, OnErr, is_some}
use Rattle.std.specs.Option.{option_map}
use Rattle.lb_base.specs.declared.fault.Kind.{Kind}
use Rattle.lb_base.specs.declared.fault.Stop.{Stop}
use Rattle.lb_values.specs.declared.cell.Cell.{Cell}
use Rattle.lb_values.specs.declared.reach.Reach.{Reach}
use Rattle.lb_values.specs.declared.value.Value.{Value}
use Rattle.lb_model.specs.declared.cells.Cells.{Ghosts}
use Rattle.lb_model.specs.declared.group.Group.{Group}
use Rattle.lb_model.specs.declared.world.World.{World}
use Rattle.lb_model.specs.Assignments.{assigned_to}
use Rattle.lb_model.specs.Settings.{Setting, State}
use Rattle.lb_model.specs.Stacked.{Standing, kinds_of, looked_all, notes_assigned, stacked, stacked_notes}
use Rattle.lb_model.specs.Stops.{MayStopAt}

-- cells are looked at, and then the cell is set to what comes of the present state, where anything does; else there is a fault of this kind, and
-- all is as it was but for what was told. Also where memory is wanted, all is as it was
pub record Assigns {S X : Type 0} (C : Ghosts S) (looks : List Cell) (reach : Reach) (cell : Cell) (to : World → State → Option Value) (kind : Kind) (result : Result X Stop) (new : S) (groups : List Group) (old : S) (groups_old : List Group) : Type 0 where
  pub narrows : (p : Setting) → C.agrees new p → C.agrees old p
  pub value : OnOk result ((p : Setting) → C.agrees new p → is_some (to p.world (C.meaning old p).now) ≡ true)
  pub ok : OnOk result ((p : Setting) → C.agrees new p → stacked groups (C.meaning new p) ≡ assigned_to reach cell (to p.world (C.meaning old p).now) (stacked groups_old (C.meaning old p)))
  pub kinds : kinds_of groups ≡ kinds_of groups_old
  pub standing : (p : Setting) → C.agrees new p → Standing groups_old (C.meaning old p) → Standing groups (C.meaning new p)
  pub notes : OnOk result (stacked_notes groups (C.notes new) ≡ option_map (λ n. notes_assigned reach cell (looked_all looks n)) (stacked_notes groups_old (C.notes old)))
  pub fault : IfErr result (λ e. MayStopAt e (λ k. (k ≡ kind) × ((p : Setting) → C.agrees new p → to p.world (C.meaning old p).now ≡ None)))
  pub notes_on_fault : IfErr result (λ e. MayStopAt e (λ k. stacked_notes groups (C.notes new) ≡ option_map (looked_all looks) (stacked_notes groups_old (C.notes old))))
  pub same : OnErr result ((p : Setting) → C.agrees new p → stacked groups (C.meaning new p) ≡ stacked groups_old (C.meaning old p))
  pub made : C.made new ≡ C.made old
  pub loan : C.loan new ≡ C.loan old
