use Rattle.lb_output.specs.FoundMarks.{found_of}
use Rattle.lb_output.proofs.Marking.{going_start, going_turn}
use Rattle.lb_output.proofs.marks.+marks.Goals as goal

pub with_list-loop-node-init : goal.with_list-loop-node-init
with_list-loop-node-init t c = going_start c.args.nodes.now (found_of c.args.before)

pub with_list-loop-node-preserved : goal.with_list-loop-node-preserved
with_list-loop-node-preserved t c = going_turn c.args.nodes.now (found_of c.args.before) (found_of c.loop-node.found) (found_of c.with_node-found.result) c.loop-node.node-index c.node-item.result c.loop-node-test.true c.node-item.is c.with_node-found.ensures c.loop-node.invariant
