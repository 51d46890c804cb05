use Rattle.std.proofs.Common.{◌≤◌, length, ◌-◌}
use Rattle.lb_measure.specs.Measures.{paragraph_in}
use Rattle.lb_break.specs.Progress.{IsGathered}
use Rattle.lb_break.proofs.gathering.gather.Given as goal

abbrev pub invariant-loop-index : goal.invariant-loop-index
invariant-loop-index l = record {
  within : l.index ≤ length l.points;
  from : l.begin ≤ l.index;
  gathered : IsGathered (paragraph_in l.measured) l.points l.j l.index l.fresh.items;
}

abbrev pub decreases-loop-index : goal.decreases-loop-index
decreases-loop-index l = length l.points - l.index
