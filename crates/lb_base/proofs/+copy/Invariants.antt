use Rattle.std.proofs.Common.{◌≡◌, take}
use Rattle.lb_base.proofs.+copy.Given as goal

abbrev pub invariant-copying::copy_nodes-loop-node : goal.invariant-copying::copy_nodes-loop-node
invariant-copying::copy_nodes-loop-node l = l.copy ≡ take l.node-index l.nodes
