-- Where a page ends, as the search finds it.
use Rattle.std.specs.Prelude.{◌≡◌, ◌<◌, List, Option, None, Some, Result, Ok, Err, take, length}
use Rattle.lb_base.specs.declared.fault.Stop.{Stop}
use Rattle.lb_base.specs.declared.fault.Stop.TheVariants.{Fault}
use Rattle.lb_base.specs.declared.node.Node.{Node}
use Rattle.lb_model_paper.specs.declared.pages.PageRules.{PageRules}
use Rattle.lb_model_paper.specs.Pages.{page_end}
use Rattle.lb_page.specs.declared.best.Cut.{Cut}
use Rattle.lb_page.specs.Places.{IsPageOf}

-- the page that ends there
pub record IsEndAt (rules : PageRules) (nodes : List Node) (cut : Cut) : Type 0 where
  pub end : page_end rules nodes ≡ Ok (Some cut.at)
  pub some : 0 < cut.at
  pub within : cut.at < length nodes
  pub page : IsPageOf rules (take cut.at nodes) cut

abbrev pub IsEnd : PageRules → List Node → Result (Option Cut) Stop → Type 0
IsEnd rules nodes (Ok None) = page_end rules nodes ≡ Ok None
IsEnd rules nodes (Ok (Some cut)) = IsEndAt rules nodes cut
IsEnd rules nodes (Err (Fault kind)) = page_end rules nodes ≡ Err kind
IsEnd rules nodes (Err _) = ⊥
