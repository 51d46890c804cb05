use Rattle.std.proofs.Common.{◌≡◌, ◌+◌, drop}
use Rattle.lb_model_paper.specs.Breaks.{items_in}
use Rattle.lb_measure.proofs.limit.+counting.Given as goal

abbrev pub invariant-left_behind-loop-node : goal.invariant-left_behind-loop-node
invariant-left_behind-loop-node l = l.left + items_in l.nodes ≡ l.number + items_in (drop l.node-index l.nodes)
