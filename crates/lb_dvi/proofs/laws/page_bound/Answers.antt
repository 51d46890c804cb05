use Rattle.lb_dvi.proofs.Bounds.{page_short}
use Rattle.lb_dvi.proofs.laws.page_bound.Goals as goal

pub returns : goal.returns
returns c = page_short
