use Rattle.lb_model_paper.proofs.ShownLists.{unbroken_parts-other}
use Rattle.lb_lines.proofs.Stays.{all_stay-end, moved-turn, none_moves-end, stay-turn}
use Rattle.lb_lines.proofs.parting.all_stay.Goals as goal

pub loop-node-preserved : goal.loop-node-preserved
loop-node-preserved c =
    let none = unbroken_parts-other c.node-item.result c.in_default.not-Disc in
    record {
      stay = stay-turn c.args.nodes.now c.loop-node.node-index c.node-item.result c.loop-node-test.true c.node-item.is none (c.in_default.not-Ins, c.in_default.not-Adjust) c.loop-node.invariant.stay;
      moved = moved-turn c.args.nodes.now c.loop-node.node-index c.node-item.result c.loop-node-test.true c.node-item.is none (c.in_default.not-Ins, c.in_default.not-Adjust) c.loop-node.invariant.moved;
    }

pub returns-clause-stay : goal.returns-clause-stay
returns-clause-stay c = all_stay-end c.args.nodes.now c.loop-node.node-index c.loop-node-test.false c.loop-node.invariant.stay

pub returns-clause-moved : goal.returns-clause-moved
returns-clause-moved c = none_moves-end c.args.nodes.now c.loop-node.node-index c.loop-node-test.false c.loop-node.invariant.moved
