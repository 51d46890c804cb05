use Rattle.std.proofs.Common.{◌≡◌, ◌++◌, length}
use Rattle.lb_cond.proofs.state.CondState.put_all.Given as goal

abbrev pub decreases-loop-conditional : goal.decreases-loop-conditional
decreases-loop-conditional l = length l.conditionals.items

abbrev pub invariant-loop-conditional : goal.invariant-loop-conditional
invariant-loop-conditional l = l.conditionals.items ++ l.self ≡ l.fn.conditionals.items ++ l.fn.self
