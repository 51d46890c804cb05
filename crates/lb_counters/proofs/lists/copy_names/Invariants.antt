use Rattle.std.proofs.Common.{◌≡◌, take}
use Rattle.lb_counters.proofs.lists.copy_names.Given as goal

abbrev pub invariant-loop-name : goal.invariant-loop-name
invariant-loop-name l = l.list ≡ take l.name-index l.names
