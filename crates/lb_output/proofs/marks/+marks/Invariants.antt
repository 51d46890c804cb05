use Rattle.lb_output.specs.FoundMarks.{found_of}
use Rattle.lb_output.proofs.Marking.{IsGoing}
use Rattle.lb_output.proofs.marks.+marks.Given as goal

abbrev pub invariant-with_list-loop-node : goal.invariant-with_list-loop-node
invariant-with_list-loop-node l = IsGoing l.nodes (found_of l.before) l.node-index (found_of l.found)
