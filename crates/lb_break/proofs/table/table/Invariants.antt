use Rattle.lb_measure.specs.Measures.{paragraph_in}
use Rattle.lb_break.specs.Progress.{IsVisited}
use Rattle.lb_break.proofs.table.table.Given as goal

abbrev pub invariant-loop-j : goal.invariant-loop-j
invariant-loop-j l = IsVisited (paragraph_in l.measured) l.points.items l.live.items l.begin l.j
