use Rattle.std.proofs.Common.{refl}
use Rattle.lb_model_paper.specs.Pages.{on_page}
use Rattle.lb_page.proofs.so_far.SoFar.nothing.Goals as goal

pub returns-clause-so_far : goal.returns-clause-so_far
unfolding on_page
returns-clause-so_far c = λ rules. record { begun = refl; firm = refl; top = refl; sums = c.of_nothing.ensures.sums }
