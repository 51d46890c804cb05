use Rattle.std.proofs.Common.{◌≡◌, ◌++◌, take, drop}
use Rattle.lb_model_paper.specs.Lines.{moving, staying}
use Rattle.lb_model_paper.specs.Nodes.{shown}
use Rattle.lb_lines.proofs.parting.all_stay.Given as goal

abbrev pub invariant-loop-node : goal.invariant-loop-node
invariant-loop-node l = record {
  stay : staying (shown l.nodes) ≡ take l.node-index l.nodes ++ staying (shown (drop l.node-index l.nodes));
  moved : moving (shown l.nodes) ≡ moving (shown (drop l.node-index l.nodes));
}
