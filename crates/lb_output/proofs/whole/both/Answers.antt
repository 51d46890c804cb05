use Rattle.std.proofs.Common.{subst, Option, Result}
use Rattle.lb_base.specs.Answers.{Answers}
use Rattle.lb_base.specs.declared.fault.Stop.{Stop}
use Rattle.lb_base.specs.declared.node.Boxed.{Boxed}
use Rattle.lb_output.proofs.whole.both.Goals as goal

pub returns-clause-boxes : goal.returns-clause-boxes
returns-clause-boxes c b r p q =
    let body : Result Boxed Stop → Type 0 = λ x. Answers b x in
    let running : Result (Option Boxed) Stop → Type 0 = λ x. Answers r x in
    c.worse_stop.ensures b r (subst body c.in-Err-Err.is-0 p) (subst running c.in-Err-Err.is-1 q)
