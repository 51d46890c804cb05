use Rattle.std.proofs.Common.{◌∙◌, ap, sym}
use Rattle.lb_model.specs.Assignments.{arithmetic_as}
use Rattle.lb_assign.proofs.Worked.{arithmetic_may_at}
use Rattle.lb_assign.proofs.arithmetic.arithmetic_at.Goals as goal

pub returns-in-Some-clause-may : goal.returns-in-Some-clause-may
returns-in-Some-clause-may c =
    arithmetic_may_at c.args.op c.args.cell.now c.args.now.now c.args.by c.arithmetic.result
    (c.arithmetic.ensures ∙ ap (λ o. arithmetic_as o c.args.op c.args.now.now c.args.by) (sym c.in-Some.is ∙ c.arithmetic_kind.ensures))
