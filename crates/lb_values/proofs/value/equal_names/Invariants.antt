use Rattle.std.proofs.Common.{◌≡◌, take}
use Rattle.lb_values.proofs.value.equal_names.Given as goal

abbrev pub invariant-loop-index : goal.invariant-loop-index
invariant-loop-index l = take l.index l.names ≡ take l.index l.others
