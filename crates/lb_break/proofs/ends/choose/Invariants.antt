use Rattle.lb_measure.specs.Measures.{paragraph_in}
use Rattle.lb_break.specs.Points.{EndBelow}
use Rattle.lb_break.proofs.ends.choose.Given as goal

abbrev pub invariant-loop-index : goal.invariant-loop-index
invariant-loop-index l = EndBelow (paragraph_in l.measured) l.points l.index l.best
