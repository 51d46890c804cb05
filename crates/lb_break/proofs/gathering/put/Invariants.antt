use Rattle.std.proofs.Common.{◌≡◌, ℕ, ◌<◌}
use Rattle.lb_break.specs.Points.{point_at}
use Rattle.lb_break.specs.Progress.{SameClass}
use Rattle.lb_break.proofs.gathering.put.Given as goal

abbrev pub invariant-loop-k : goal.invariant-loop-k
invariant-loop-k l = record {
  same : l.fresh.items ≡ l.initial.fresh.items;
  new : (i : ℕ) → i < l.k → SameClass (point_at l.fresh.items i) l.point → ⊥;
}
