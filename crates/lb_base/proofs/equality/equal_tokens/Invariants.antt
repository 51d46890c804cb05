use Rattle.std.proofs.Common.{◌≡◌, take}
use Rattle.lb_base.proofs.equality.equal_tokens.Given as goal

abbrev pub invariant-loop-index : goal.invariant-loop-index
invariant-loop-index l = take l.index l.tokens ≡ take l.index l.others
