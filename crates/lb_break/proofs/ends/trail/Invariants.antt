use Rattle.std.proofs.Common.{◌≡◌, ℕ, ◌<◌, ◌++◌, List, length}
use Rattle.lb_model_paper.specs.declared.paragraph.BreakEnd.{BreakEnd}
use Rattle.lb_break.specs.Points.{IsTrail}
use Rattle.lb_break.proofs.ends.trail.Given as goal

abbrev pub invariant-loop-q : goal.invariant-loop-q
invariant-loop-q l = record {
  within : l.q < length l.points;
  so_far : (x : ℕ → List BreakEnd) → IsTrail l.points x → l.ends.items ++ x l.q ≡ x l.index;
}

abbrev pub decreases-loop-q : goal.decreases-loop-q
decreases-loop-q l = l.q
