use Rattle.lb_model_paper.proofs.ShownLists.{is_shown-all, is_shown-turn, unbroken_parts-other}
use Rattle.lb_nodes.proofs.showing.is_shown.Goals as goal

pub loop-node-preserved : goal.loop-node-preserved
loop-node-preserved c = is_shown-turn c.args.nodes.now c.loop-node.node-index c.node-item.result c.loop-node-test.true c.node-item.is (unbroken_parts-other c.node-item.result c.in_default.not-Disc) c.loop-node.invariant

pub returns : goal.returns
returns c = is_shown-all c.args.nodes.now c.loop-node.node-index c.loop-node-test.false c.loop-node.invariant
