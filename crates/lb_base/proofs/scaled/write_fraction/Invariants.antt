use Rattle.std.proofs.Common.{◌≡◌, ◌+◌, ◌-◌, ◌/◌, ◌≤◌, ◌++◌, take, drop}
use Rattle.lb_base.proofs.FractionWriting.{numerator, padded, Turning}
use Rattle.lb_base.proofs.scaled.write_fraction.Given as goal

abbrev pub invariant-places : goal.invariant-places
invariant-places l = record {
  within : l.at ≤ l.next;
  turning : Turning l.fraction (l.next - l.at) l.rest l.delta;
  text : take l.next l.out ≡ take l.at l.initial.out ++ padded (l.next - l.at) (numerator (l.next - l.at) l.fraction / 655360);
  behind : drop l.next l.out ≡ drop l.next l.initial.out;
}

abbrev pub decreases-places : goal.decreases-places
decreases-places l = l.at + 5 - l.next
