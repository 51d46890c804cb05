use Rattle.std.proofs.Common.{sym, ◌∙◌}
use Rattle.lb_tfm.proofs.Drawn.{action-drawn}
use Rattle.lb_tfm.proofs.Programs.{no-program}
use Rattle.lb_tfm.proofs.font.Font.step.Goals as goal

pub returns-in_default-clause-value : goal.returns-in_default-clause-value
returns-in_default-clause-value c = sym (no-program c.args.self.now c.args.left c.args.right (sym c.start.ensures ∙ c.in_default.is))

pub returns-clause-drawn : goal.returns-clause-drawn
returns-clause-drawn c =
    rw (← c.self.view_is, c.action.ensures, c.deref.ensures.value)
    (action-drawn c.self.inside.metrics.items c.self.inside.steps.items c.in-Some.start c.in-Some-code.code c.self.invariant.2)
