use Rattle.std.proofs.Common.{◌≡◌, take}
use Rattle.lb_base.proofs.+equal.Given as goal

abbrev pub invariant-equality::equal_nodes-loop-index : goal.invariant-equality::equal_nodes-loop-index
invariant-equality::equal_nodes-loop-index l = take l.index l.nodes ≡ take l.index l.others
