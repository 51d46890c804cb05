-- What stands on a page so far, as it is kept.
use Rattle.std.specs.Prelude.{◌≡◌, List, [], ◌∷◌, ◌++◌, Option, None, Some, ℤ, if◌then◌else◌}
use Rattle.lb_base.specs.declared.node.Node.{Node}
use Rattle.lb_model_paper.specs.declared.pages.PageRules.{PageRules}
use Rattle.lb_model_paper.specs.Pages.{is_begun, is_block, is_firm, on_page, top_glue, top_width, with_top_glue, without_top}
use Rattle.lb_page.specs.declared.so_far.SoFar.{SoFar}
use Rattle.lb_page.specs.Sums.{AreSums}

-- how wide the glue before the first box or rule is, where there is one
abbrev pub first_width : PageRules → List Node → Option ℤ
first_width rules [] = None
first_width rules (node ∷ nodes) = if is_block node then Some (top_width rules node) else first_width rules nodes

-- what stands on a page just before a node: behind some others, and behind the glue before the first box or rule if it is that
abbrev pub opened_by : PageRules → List Node → Node → Option ℤ → List Node
opened_by rules nodes node (Some width) = with_top_glue rules nodes
opened_by rules nodes node None = if is_block node then with_top_glue rules nodes ++ top_glue rules node ∷ [] else with_top_glue rules nodes

abbrev pub opened : PageRules → List Node → Node → List Node
opened rules nodes node = opened_by rules nodes node (first_width rules nodes)

-- the page stands ready for the node
pub record IsOpened (rules : PageRules) (nodes : List Node) (node : Node) (so_far : SoFar) : Type 0 where
  pub top : so_far.top ≡ first_width rules (nodes ++ node ∷ [])
  pub sums : AreSums (opened rules nodes node) so_far.sums

-- these nodes were contributed to the page
pub record IsSoFar (rules : PageRules) (front : List Node) (so_far : SoFar) : Type 0 where
  pub begun : so_far.begun ≡ is_begun front
  pub firm : so_far.firm ≡ is_firm front
  pub top : so_far.top ≡ first_width rules (without_top front)
  pub sums : AreSums (on_page rules front) so_far.sums
