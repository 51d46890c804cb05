use Rattle.std.proofs.Common.{sym, subst}
use Rattle.lb_page.specs.Searches.{IsKept}
use Rattle.lb_page.proofs.Waiting.{IsKept-more}
use Rattle.lb_page.proofs.page_list.contribute.Goals as goal

pub invariant_of-page-2 : goal.invariant_of-page-2
invariant_of-page-2 c = subst (λ ns. IsKept ns c.page.inside.search) (sym c.in_ok-push_back.ensures.items) (IsKept-more c.page.inside.nodes.items _ c.page.inside.search c.page.invariant)
