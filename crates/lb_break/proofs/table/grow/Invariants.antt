use Rattle.std.proofs.Common.{◌≡◌, ◌++◌, true, replicate}
use Rattle.lb_break.proofs.table.grow.Given as goal

abbrev pub invariant-loop-done : goal.invariant-loop-done
invariant-loop-done l = l.live.items ≡ l.initial.live.items ++ replicate l._done true
