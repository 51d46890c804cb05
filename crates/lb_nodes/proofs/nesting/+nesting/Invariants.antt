use Rattle.std.proofs.Common.{◌≡◌, max}
use Rattle.lb_nodes.proofs.Nests.{nesting_from}
use Rattle.lb_nodes.proofs.nesting.+nesting.Given as goal

abbrev pub invariant-nests_within-loop-node : goal.invariant-nests_within-loop-node
invariant-nests_within-loop-node l = max (nesting_from l.nodes 0) l.limit ≡ max (nesting_from l.nodes l.node-index) l.limit
