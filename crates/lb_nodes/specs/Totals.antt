-- The totals of a list as they are summed up. Lengths are in scaled points.
use Rattle.std.specs.Prelude.{◌≡◌, List, ℤ, ◌-ℤ◌}
use Rattle.lb_base.specs.declared.glue.Order.{Order}
use Rattle.lb_base.specs.declared.glue.Order.TheVariants.{Finite, Fil, Fill, Filll}
use Rattle.lb_base.specs.declared.glue.Target.{Target}
use Rattle.lb_base.specs.declared.node.Axis.{Axis}
use Rattle.lb_base.specs.declared.node.Axis.TheVariants.{Horizontal, Vertical}
use Rattle.lb_base.specs.declared.node.Node.{Node}
use Rattle.lb_model_paper.specs.Boxes.{asked}
use Rattle.lb_model_paper.specs.Dvi.{IsSmall}
use Rattle.lb_model_paper.specs.Nodes.{along, largest, last_depth, natural_size, reach_down, reach_right, reach_up, shrink_of, stretch_of, total}
use Rattle.lb_nodes.specs.declared.by_order.ByOrder.{ByOrder}
use Rattle.lb_nodes.specs.declared.totals.Totals.{Totals}

-- the amount of an order
abbrev pub amount_in : ByOrder → Order → ℤ
amount_in amounts Finite = amounts.finite
amount_in amounts Fil = amounts.fil
amount_in amounts Fill = amounts.fill
amount_in amounts Filll = amounts.filll

-- these are the totals of a list
pub record AreTotals (axis : Axis) (nodes : List Node) (totals : Totals) : Type 0 where
  pub room : totals.room ≡ total (along axis) nodes
  pub hanging : totals.hanging ≡ last_depth nodes
  pub up : totals.up ≡ largest reach_up nodes
  pub down : totals.down ≡ largest reach_down nodes
  pub right : totals.right ≡ largest reach_right nodes
  pub stretch : (order : Order) → amount_in totals.stretch order ≡ total (stretch_of order) nodes
  pub shrink : (order : Order) → amount_in totals.shrink order ≡ total (shrink_of order) nodes

-- the natural size of the list that has these totals
abbrev pub natural_in : Axis → Totals → ℤ
natural_in Horizontal totals = totals.room
natural_in Vertical totals = totals.room -ℤ totals.hanging

pub record AreSmallAmounts (amounts : ByOrder) : Type 0 where
  pub finite : IsSmall amounts.finite
  pub fil : IsSmall amounts.fil
  pub fill : IsSmall amounts.fill
  pub filll : IsSmall amounts.filll

pub record AreSmallTotals (axis : Axis) (totals : Totals) : Type 0 where
  pub natural : IsSmall (natural_in axis totals)
  pub stretch : AreSmallAmounts totals.stretch
  pub shrink : AreSmallAmounts totals.shrink

-- the natural size, stretch and shrink of a list are small, but perhaps not those of its first items
pub record AreSmallInAll (axis : Axis) (nodes : List Node) : Type 0 where
  pub natural : IsSmall (natural_size axis nodes)
  pub stretch : (order : Order) → IsSmall (total (stretch_of order) nodes)
  pub shrink : (order : Order) → IsSmall (total (shrink_of order) nodes)

-- the reaches across the list are small
abbrev pub AreSmallReaches : Axis → Totals → Type 0
AreSmallReaches Horizontal totals = IsSmall totals.up × IsSmall totals.down
AreSmallReaches Vertical totals = IsSmall totals.right

-- the size that is asked for, the excess and the reaches across the list are small
pub record AreSmallLengths (axis : Axis) (totals : Totals) (target : Target) : Type 0 where
  pub along : IsSmall (asked target (natural_in axis totals))
  pub excess : IsSmall (asked target (natural_in axis totals) -ℤ natural_in axis totals)
  pub reaches : AreSmallReaches axis totals
