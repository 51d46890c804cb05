use Rattle.lb_dvi.proofs.Bounds.{one_through, one_few}
use Rattle.lb_dvi.proofs.laws.one_font.Goals as goal

pub returns-clause-kept : goal.returns-clause-kept
returns-clause-kept c = one_through

pub returns-clause-few : goal.returns-clause-few
returns-clause-few c = one_few
