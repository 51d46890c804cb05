-- The sums of what stands on a page as they are kept. Lengths are in scaled points.
use Rattle.std.specs.Prelude.{◌≡◌, Bool, ◌&&◌, List, Option, ℤ, pos, neg_ℤ, ◌≤ℤ◌, ◌-ℤ◌, if◌then◌else◌, ◌+ℤ◌}
use Rattle.lb_base.specs.declared.glue.Order.{Order}
use Rattle.lb_base.specs.declared.glue.Order.TheVariants.{Finite, Fil, Fill, Filll}
use Rattle.lb_base.specs.declared.node.Axis.TheVariants.{Vertical}
use Rattle.lb_base.specs.declared.node.Node.{Node}
use Rattle.lb_model_paper.specs.declared.pages.PageRules.{PageRules}
use Rattle.lb_model_paper.specs.Boxes.{are_small_in}
use Rattle.lb_model_paper.specs.Dvi.{is_small, IsSmall}
use Rattle.lb_model_paper.specs.Nodes.{along, largest, reach_right, shrink_of, stretch_of, total}
use Rattle.lb_model_paper.specs.Pages.{badness_to, cost_by, foot_size, hangs, has_foot, last_block_depth}
use Rattle.lb_model_paper.specs.declared.pages.Cost.{Cost}
use Rattle.lb_page.specs.declared.amounts.Amounts.{Amounts}
use Rattle.lb_page.specs.declared.sums.Sums.{Sums}

-- the amount of an order
abbrev pub amount_in : Amounts → Order → ℤ
amount_in amounts Finite = amounts.finite
amount_in amounts Fil = amounts.fil
amount_in amounts Fill = amounts.fill
amount_in amounts Filll = amounts.filll

pub record AreSmallAmounts (amounts : Amounts) : Type 0 where
  pub finite : IsSmall amounts.finite
  pub fil : IsSmall amounts.fil
  pub fill : IsSmall amounts.fill
  pub filll : IsSmall amounts.filll

-- these are the sums of what stands on a page
pub record AreSums (page : List Node) (sums : Sums) : Type 0 where
  pub room : sums.room ≡ total (along Vertical) page
  pub hanging : sums.hanging ≡ last_block_depth page
  pub right : sums.right ≡ largest reach_right page
  pub stretch : (order : Order) → amount_in sums.stretch order ≡ total (stretch_of order) page
  pub shrink : (order : Order) → amount_in sums.shrink order ≡ total (shrink_of order) page
  pub has_foot : sums.has_foot ≡ has_foot page
  pub feet_size : sums.feet_size ≡ total foot_size page

-- whether they are small, by the rules of the page
abbrev pub small_lengths : PageRules → Sums → Bool
small_lengths rules sums =
    is_small (sums.room -ℤ hangs rules sums.hanging) && (is_small (hangs rules sums.hanging) && (is_small sums.right && is_small sums.feet_size))

abbrev pub small_sums : PageRules → Sums → Bool
small_sums rules sums = small_lengths rules sums && (are_small_in (amount_in sums.stretch) && are_small_in (amount_in sums.shrink))

-- the room and what is at the foot are small enough for one more item
pub record AreReadyLengths (sums : Sums) : Type 0 where
  pub low : neg_ℤ (pos 2147483646) ≤ℤ sums.room
  pub high : sums.room ≤ℤ pos 2147483646
  pub feet_size : IsSmall sums.feet_size

-- and so are stretch and shrink
pub record AreReady (sums : Sums) : Type 0 where
  pub lengths : AreReadyLengths sums
  pub stretch : AreSmallAmounts sums.stretch
  pub shrink : AreSmallAmounts sums.shrink

-- and what stands on the page by the rules of the page
pub record AreReadyBy (rules : PageRules) (sums : Sums) : Type 0 where
  pub ready : AreReady sums
  pub total : IsSmall (sums.room -ℤ hangs rules sums.hanging)
  pub hanging : IsSmall (hangs rules sums.hanging)

-- the goal and the cost of a page with these sums
abbrev pub goal_in : PageRules → Sums → ℤ
goal_in rules sums = rules.textheight -ℤ (if sums.has_foot then pos 589824 +ℤ sums.feet_size else pos 0)

abbrev pub badness_in : PageRules → Sums → Option ℤ
badness_in rules sums = badness_to (goal_in rules sums -ℤ (sums.room -ℤ hangs rules sums.hanging)) (amount_in sums.stretch) (amount_in sums.shrink)

abbrev pub cost_in : PageRules → Sums → ℤ → Cost
cost_in rules sums penalty = cost_by penalty (badness_in rules sums)
