use Rattle.std.proofs.Common.{◌∙◌, sym, subst, Some, ◌+◌}
use Rattle.lb_measure.specs.Measures.{paragraph_in}
use Rattle.lb_break.specs.Points.{EndBelow}
use Rattle.lb_break.proofs.Charts.{end-more}
use Rattle.lb_break.proofs.ends.consider_end.Goals as goal

pub returns : goal.returns
returns c = subst (λ i. EndBelow (paragraph_in c.args.measured.now) c.args.points.now (c.args.index + 1) (Some i)) (sym c.earlier.ensures)
    (end-more (paragraph_in c.args.measured.now) c.args.points.now c.args.index c.args.best (c.if-points-index.false ∙ c.count.ensures.value) c.requires.best)
