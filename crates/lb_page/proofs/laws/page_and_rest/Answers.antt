use Rattle.lb_page.proofs.PageAndRest.{page_and_rest}
use Rattle.lb_page.proofs.laws.page_and_rest.Goals as goal

pub returns : goal.returns
returns c = page_and_rest
