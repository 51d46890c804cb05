use Rattle.std.proofs.Common.{◌≡◌, ◌≤◌, ◌<◌, length, drop}
use Rattle.lb_base.proofs.DecimalReading.{scaled}
use Rattle.lb_base.proofs.scaled.round_decimals.Given as goal

abbrev pub invariant-loop-left : goal.invariant-loop-left
invariant-loop-left l = record {
  within : l.left ≤ length l.counted;
  small : l.twice < 131072;
  value : l.twice ≡ scaled (drop l.left l.counted);
}

abbrev pub decreases-loop-left : goal.decreases-loop-left
decreases-loop-left l = l.left
