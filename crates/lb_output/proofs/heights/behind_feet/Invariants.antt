use Rattle.std.proofs.Common.{◌≡◌, take, drop, map}
use Rattle.lb_model_paper.specs.Nodes.{total}
use Rattle.lb_model_paper.specs.Pages.{foot_size}
use Rattle.lb_model_paper.specs.PageBoxes.{are_small_behind}
use Rattle.lb_output.specs.Heights.{IsSum}
use Rattle.lb_output.proofs.heights.behind_feet.Given as goal

abbrev pub invariant-loop-node : goal.invariant-loop-node
invariant-loop-node l = record {
  sum : IsSum l.start (total foot_size (take l.node-index l.feet)) l.sum;
  small : are_small_behind l.start (map foot_size l.feet) ≡ are_small_behind l.sum (map foot_size (drop l.node-index l.feet));
}
