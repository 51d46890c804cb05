-- A page while its nodes are moved to it.
use Rattle.std.specs.Prelude.{◌≡◌, ℕ, Bool, true, false, not, List, [], ◌∷◌, filter, Option, None, Some, ℤ}
use Rattle.std.specs.Option.{is_some}
use Rattle.lb_base.specs.declared.node.KernOrigin.TheVariants.{Explicit}
use Rattle.lb_base.specs.declared.node.Node.{Node, Kern as KernNode}
use Rattle.lb_model_paper.specs.declared.pages.PageRules.{PageRules}
use Rattle.lb_model_paper.specs.Pages.{is_begun, is_foot, on_page, without_top}
use Rattle.lb_page.specs.declared.filling.Filling.{Filling}
use Rattle.lb_page.specs.SoFar.{first_width}

-- what is no footnote
abbrev pub stays : Node → Bool
stays node = not (is_foot node)

-- these nodes were moved to the page
pub record IsFilling (rules : PageRules) (front : List Node) (filling : Filling) : Type 0 where
  pub items : filling.items.items ≡ filter stays (on_page rules front)
  pub feet : filling.feet.items ≡ filter is_foot (on_page rules front)
  pub begun : filling.begun ≡ is_begun front
  pub topped : filling.topped ≡ is_some (first_width rules (without_top front))

-- room for the glue that is still to come
abbrev pub spare : Bool → ℕ
spare true = 0
spare false = 1

-- a kern, if it has a width
abbrev pub kern_of : Option ℤ → List Node
kern_of None = []
kern_of (Some width) = KernNode width Explicit ∷ []
