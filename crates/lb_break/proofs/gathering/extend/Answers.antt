use Rattle.std.proofs.Common.{◌∙◌, ap, arith}
use Rattle.lb_measure.specs.Measures.{paragraph_in}
use Rattle.lb_break.specs.Points.{extended_by, point_at}
use Rattle.lb_break.proofs.Stops.{extended-open}
use Rattle.lb_break.proofs.gathering.extend.Goals as goal

pub step-requires-clause-j : goal.step-requires-clause-j
step-requires-clause-j c = omega (arith, c.requires.j, c.requires.measured.few)

pub returns-in-Some-clause-value : goal.returns-in-Some-clause-value
returns-in-Some-clause-value c = c.step.ensures.value ∙ ap (extended_by (paragraph_in c.args.measured.now) c.args.index (point_at c.args.points.now c.args.index) c.args.j) (c.in-Some.ensures.value (point_at c.args.points.now c.args.index).class) ∙ extended-open (paragraph_in c.args.measured.now) c.args.points.now c.args.j c.args.index c.requires.live

pub returns-in-None-clause-value : goal.returns-in-None-clause-value
returns-in-None-clause-value c = ap (extended_by (paragraph_in c.args.measured.now) c.args.index (point_at c.args.points.now c.args.index) c.args.j) (c.in-None.ensures.value (point_at c.args.points.now c.args.index).class) ∙ extended-open (paragraph_in c.args.measured.now) c.args.points.now c.args.j c.args.index c.requires.live
