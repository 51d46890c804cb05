use Rattle.std.proofs.Common.{◌≡◌, ◌++◌, reverse}
use Rattle.lb_model_paper.specs.Lines.{moving, staying}
use Rattle.lb_model_paper.specs.Nodes.{shown}
use Rattle.lb_model_paper.proofs.ShownLists.{list_weight}
use Rattle.lb_lines.proofs.parting.part.Given as goal

abbrev pub invariant-loop-node : goal.invariant-loop-node
invariant-loop-node l = record {
  stay : l.parted.stay ++ staying (shown (reverse l.pending)) ≡ staying (shown l.fn.line);
  moved : l.parted.moved ++ moving (shown (reverse l.pending)) ≡ moving (shown l.fn.line);
}

abbrev pub decreases-loop-node : goal.decreases-loop-node
decreases-loop-node l = list_weight (reverse l.pending)
