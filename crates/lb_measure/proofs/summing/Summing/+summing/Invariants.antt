use Rattle.std.proofs.Common.{◌≡◌, ◌+◌, ◌*◌, ◌≤◌, take, drop}
use Rattle.lb_model_paper.specs.Breaks.{count_of, items_in, sums_of}
use Rattle.lb_model_paper.specs.Nodes.{shown}
use Rattle.lb_measure.specs.Amounts.{added, AreNear}
use Rattle.lb_measure.proofs.summing.Summing.+summing.Given as goal

abbrev pub invariant-add_all-loop-node : goal.invariant-add_all-loop-node
invariant-add_all-loop-node l = record {
  sums : l.self.sums ≡ added l.fn.self.sums (sums_of (shown (take l.node-index l.nodes)));
  count : l.self.count + items_in (drop l.node-index l.nodes) ≤ l.fn.self.count + items_in l.nodes;
  near : AreNear l.self.count l.self.sums;
}

abbrev pub decreases-add_all : goal.decreases-add_all
decreases-add_all l = 2 * items_in l.nodes.now + 1

abbrev pub decreases-add : goal.decreases-add
decreases-add l = 2 * count_of l.node.now
