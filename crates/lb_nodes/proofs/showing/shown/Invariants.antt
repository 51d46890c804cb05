use Rattle.std.proofs.Common.{◌≡◌, ◌++◌, reverse}
use Rattle.lb_model_paper.specs.Nodes.{shown}
use Rattle.lb_model_paper.proofs.ShownLists.{list_weight}
use Rattle.lb_nodes.proofs.showing.shown.Given as goal

abbrev pub invariant-loop-node : goal.invariant-loop-node
invariant-loop-node l = l.nodes ++ shown (reverse l.pending) ≡ shown l.fn.list

abbrev pub decreases-loop-node : goal.decreases-loop-node
decreases-loop-node l = list_weight (reverse l.pending)
