use Rattle.std.proofs.Common.{◌≡◌, ◌++◌, length}
use Rattle.lb_nest.proofs.paragraph_end.append_entries.Given as goal

abbrev pub invariant-loop-entry : goal.invariant-loop-entry
invariant-loop-entry l = l.list ++ l.rest ≡ l.fn.list ++ l.fn.entries

abbrev pub decreases-loop-entry : goal.decreases-loop-entry
decreases-loop-entry l = length l.rest
