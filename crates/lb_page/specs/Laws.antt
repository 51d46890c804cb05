-- Where a page ends, and what it and the rest are, by themselves.
use Rattle.std.specs.Prelude.{◌≡◌, ◌<◌, ◌≤◌, ℕ, true, false, List, ◌++◌, length, filter, Some, ℤ}
use Rattle.std.specs.List.{list_all}
use Rattle.lb_base.specs.declared.node.Node.{Node}
use Rattle.lb_model_paper.specs.declared.pages.Cost.{Cost}
use Rattle.lb_model_paper.specs.declared.pages.PagePart.{PagePart}
use Rattle.lb_model_paper.specs.declared.pages.PageRules.{PageRules}
use Rattle.lb_model_paper.specs.Pages.{cost_at, costs_at_most, is_discardable, is_ending, is_foot, penalty_at}
use Rattle.lb_page.specs.Fillings.{stays}

-- the first place that is awful or forced
pub record IsSearchEnd (rules : PageRules) (nodes : List Node) (last : ℕ) : Type 0 where
  pub within : last < length nodes
  pub ends : (cost : Cost) × ((cost_at rules nodes last ≡ Some cost) × (is_ending cost ≡ true))
  pub first : (j : ℕ) (cost : Cost) → j < last → cost_at rules nodes j ≡ Some cost → is_ending cost ≡ false

-- a place before n that costs no more than any other, and less than those behind it
pub record IsLastCheapest (rules : PageRules) (nodes : List Node) (n k : ℕ) : Type 0 where
  pub within : k < n
  pub legal : (penalty : ℤ) × (penalty_at nodes k ≡ Some penalty)
  pub cost : Cost
  pub costs : cost_at rules nodes k ≡ Some cost
  pub least : (j : ℕ) (other : Cost) → j < n → cost_at rules nodes j ≡ Some other → costs_at_most cost other ≡ true
  pub last : (j : ℕ) (other : Cost) → k < j → j < n → cost_at rules nodes j ≡ Some other → costs_at_most other cost ≡ false

-- A list is the discardables at its top, the nodes of the page and the rest, in this order. The page's footnotes are those of its nodes, and
-- its items the others, with at most a glue put between two of them and at most a kern behind them.
pub record IsPageAndRest (nodes : List Node) (part : PagePart) (rest : List Node) : Type 0 where
  pub top : List Node
  pub front : List Node
  pub back : List Node
  pub glue : List Node
  pub kern : List Node
  pub whole : nodes ≡ top ++ ((front ++ back) ++ rest)
  pub discarded : list_all is_discardable top ≡ true
  pub feet : part.feet ≡ filter is_foot (front ++ back)
  pub items : part.items ≡ (filter stays front ++ glue) ++ (filter stays back ++ kern)
  pub one_glue : length glue ≤ 1
  pub one_kern : length kern ≤ 1
