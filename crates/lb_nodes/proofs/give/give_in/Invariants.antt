use Rattle.std.proofs.Common.{◌≡◌, ◌*◌, ◌≤◌, take}
use Rattle.std.specs.Prelude.{unsigned_abs}
use Rattle.lb_model_paper.specs.Boxes.{give_of}
use Rattle.lb_model_paper.specs.Nodes.{total}
use Rattle.lb_nodes.proofs.give.give_in.Given as goal

abbrev pub invariant-loop-node : goal.invariant-loop-node
invariant-loop-node l = record {
  give : l.give ≡ total (give_of l.set) (take l.node-index l.nodes);
  bounded : unsigned_abs l.give ≤ 2147483648 * l.node-index;
}
