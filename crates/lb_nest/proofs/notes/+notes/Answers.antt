use Rattle.lb_nest.proofs.NoteLemmas.{going-start, going-turn}
use Rattle.lb_nest.proofs.notes.+notes.Goals as goal

pub push_notes-loop-node-init : goal.push_notes-loop-node-init
push_notes-loop-node-init t c = going-start c.args.number.now c.args.nodes.now c.args.entries.now

pub push_notes-loop-node-preserved : goal.push_notes-loop-node-preserved
push_notes-loop-node-preserved t c =
    going-turn c.args.number.now c.args.nodes.now c.args.entries.now c.loop-node.entries c.push_notes_of.new.entries c.loop-node.node-index c.node-item.result c.loop-node-test.true c.node-item.is c.in_ok-push_notes_of.ensures c.loop-node.invariant
