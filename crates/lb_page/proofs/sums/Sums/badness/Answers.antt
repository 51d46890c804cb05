use Rattle.std.proofs.Common.{◌∙◌, ap, ℤ, arith}
use Rattle.std.proofs.lemmas.Int.{ints}
use Rattle.lb_model_paper.specs.Pages.{badness_to}
use Rattle.lb_page.specs.Sums.{amount_in}
use Rattle.lb_page.proofs.sums.Sums.badness.Goals as goal

pub returns-clause-badness : goal.returns-clause-badness
returns-clause-badness c =
    let s = c.args.self.now in
    c.badness_to.ensures.badness ∙ ap (λ (z : ℤ). badness_to z (amount_in s.stretch) (amount_in s.shrink)) (omega (arith, ints, c.goal.ensures.goal))
