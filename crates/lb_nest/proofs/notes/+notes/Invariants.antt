use Rattle.lb_nest.proofs.NoteLemmas.{IsGoing}
use Rattle.lb_nest.proofs.notes.+notes.Given as goal

abbrev pub invariant-push_notes-loop-node : goal.invariant-push_notes-loop-node
invariant-push_notes-loop-node l = IsGoing l.number l.nodes l.fn.entries l.node-index l.entries
