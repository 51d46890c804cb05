use Rattle.std.proofs.Common.{◌≡◌, ◌++◌, take, drop}
use Rattle.lb_model_paper.specs.Nodes.{shown}
use Rattle.lb_nodes.proofs.showing.is_shown.Given as goal

abbrev pub invariant-loop-node : goal.invariant-loop-node
invariant-loop-node l = shown l.nodes ≡ take l.node-index l.nodes ++ shown (drop l.node-index l.nodes)
