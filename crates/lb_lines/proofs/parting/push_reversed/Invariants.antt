use Rattle.std.proofs.Common.{◌≡◌, ◌++◌, length, reverse}
use Rattle.lb_lines.proofs.parting.push_reversed.Given as goal

abbrev pub invariant-loop-node : goal.invariant-loop-node
invariant-loop-node l = l.pending ++ reverse l.list ≡ l.initial.pending ++ reverse l.initial.list

abbrev pub decreases-loop-node : goal.decreases-loop-node
decreases-loop-node l = length l.list
