use Rattle.std.proofs.Common.{◌≡◌, ℕ, ◌<◌, ◌≤◌, ◌-◌, false, get_or, length}
use Rattle.lb_break.proofs.table.first_live.Given as goal

abbrev pub invariant-loop-index : goal.invariant-loop-index
invariant-loop-index l = record {
  within : l.index ≤ length l.live;
  from : l.begin ≤ l.index;
  passed : (q : ℕ) → l.begin ≤ q → q < l.index → get_or l.live q false ≡ false;
}

abbrev pub decreases-loop-index : goal.decreases-loop-index
decreases-loop-index l = length l.live - l.index
