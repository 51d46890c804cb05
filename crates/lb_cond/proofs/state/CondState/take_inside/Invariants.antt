use Rattle.std.proofs.Common.{◌≡◌, ◌++◌, length}
use Rattle.lb_model.specs.Conditionals.{decided_as}
use Rattle.lb_cond.proofs.state.CondState.take_inside.Given as goal

abbrev pub decreases-around : goal.decreases-around
decreases-around l = length l.self

abbrev pub invariant-around : goal.invariant-around
invariant-around l = l.inside.items ++ decided_as l.part l.self ≡ l.fn.inside.items ++ decided_as l.part l.fn.self
