use Rattle.std.proofs.Common.{◌≡◌, drop}
use Rattle.lb_nest.specs.Endings.{has_bad}
use Rattle.lb_nest.proofs.bad_lines.has_bad.Given as goal

abbrev pub invariant-loop-end : goal.invariant-loop-end
invariant-loop-end l = has_bad (drop l.end-index l.ends) ≡ has_bad l.ends
