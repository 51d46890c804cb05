use Rattle.std.proofs.Common.{◌≡◌, ◌++◌, length}
use Rattle.lb_nest.proofs.adding.first_to_last.Given as goal

abbrev pub decreases-nodes : goal.decreases-nodes
decreases-nodes l = length l.nodes

abbrev pub invariant-nodes : goal.invariant-nodes
invariant-nodes l = l.nodes ++ l.stack ≡ l.fn.nodes
