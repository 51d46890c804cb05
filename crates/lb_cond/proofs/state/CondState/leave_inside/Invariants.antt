use Rattle.std.proofs.Common.{◌≡◌, ◌+◌, ◌<◌, ◌^◌, drop, length}
use Rattle.lb_model.specs.Conditionals.{inside}
use Rattle.lb_cond.proofs.state.CondState.leave_inside.Given as goal

abbrev pub decreases-around : goal.decreases-around
decreases-around l = length l.self

abbrev pub invariant-around : goal.invariant-around
invariant-around l =
    record {
      count : l.count + inside l.self ≡ inside l.fn.self;
      small : l.count < 2 ^ 32;
      left : drop (inside l.self) l.self ≡ drop (inside l.fn.self) l.fn.self;
    }
