-- Places as they are kept.
use Rattle.std.specs.Prelude.{◌≡◌, ℕ, ◌<◌, List, Option, None, Some, option_map, take, length, ℤ, neg_ℤ, IfSome}
use Rattle.std.specs.Int.{int_min}
use Rattle.lb_base.specs.declared.node.Node.{Node}
use Rattle.lb_model_paper.specs.declared.pages.Cost.{Cost}
use Rattle.lb_model_paper.specs.declared.pages.PageRules.{PageRules}
use Rattle.lb_model_paper.specs.Pages.{best_place, cost_at, last_block_depth, on_page, page_goal, without_top}
use Rattle.lb_page.specs.declared.best.Cut.{Cut}
use Rattle.lb_page.specs.SoFar.{first_width}

abbrev pub cost_of_cut : Cut → Cost
cost_of_cut cut = cut.cost

abbrev pub place_of_cut : Cut → ℕ
place_of_cut cut = cut.at

-- the kern that takes back what hangs below a page
abbrev pub closing_width : PageRules → ℤ → ℤ
closing_width rules depth = neg_ℤ (int_min depth rules.maxdepth)

-- what the page of these nodes has
pub record IsPageOf (rules : PageRules) (front : List Node) (cut : Cut) : Type 0 where
  pub top : cut.top ≡ first_width rules (without_top front)
  pub closing : cut.closing ≡ option_map (closing_width rules) (last_block_depth (on_page rules front))
  pub goal : cut.goal ≡ page_goal rules (on_page rules front)

-- a place of a list, and the page before it
pub record IsCut (rules : PageRules) (nodes : List Node) (cut : Cut) : Type 0 where
  pub within : cut.at < length nodes
  pub cost : cost_at rules nodes cut.at ≡ Some cut.cost
  pub page : IsPageOf rules (take cut.at nodes) cut

-- the place at an item, if there is one
abbrev pub IsPlace : PageRules → List Node → ℕ → Option Cut → Type 0
IsPlace rules nodes n None = cost_at rules nodes n ≡ None
IsPlace rules nodes n (Some cut) = IsCut rules nodes cut × (cut.at ≡ n)

-- the best place before an item
pub record IsBest (rules : PageRules) (nodes : List Node) (n : ℕ) (best : Option Cut) : Type 0 where
  pub place : best_place rules nodes n ≡ option_map place_of_cut best
  pub cut : IfSome best (IsCut rules nodes)
