use Rattle.std.proofs.Common.{◌≡◌, ◌++◌, reverse, length}
use Rattle.lb_output.proofs.building.turned.Given as goal

abbrev pub invariant-loop-node : goal.invariant-loop-node
invariant-loop-node l = l.nodes ++ reverse l.list ≡ reverse l.fn.list

abbrev pub decreases-loop-node : goal.decreases-loop-node
decreases-loop-node l = length l.list
