use Rattle.lb_break.proofs.Least.{best-law, best-none, best-some}
use Rattle.lb_break.proofs.laws.best_of_all.Goals as goal

pub returns : goal.returns
returns c = record {
  best = best-law;
  only = best-some;
  none = best-none;
}
