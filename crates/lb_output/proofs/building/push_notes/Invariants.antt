use Rattle.std.proofs.Common.{◌≡◌, ◌++◌, map, reverse, length}
use Rattle.lb_model_paper.specs.PageBoxes.{foot_at}
use Rattle.lb_output.proofs.building.push_notes.Given as goal

abbrev pub invariant-loop-node : goal.invariant-loop-node
invariant-loop-node l = l.items ++ map (foot_at l.margin) (reverse l.turned) ≡ l.fn.items ++ map (foot_at l.margin) l.fn.feet

abbrev pub decreases-loop-node : goal.decreases-loop-node
decreases-loop-node l = length l.turned
