use Rattle.std.proofs.Common.{◌-◌, length}
use Rattle.lb_tests_text.proofs.states.writes.Given as goal

abbrev pub decreases-loop-from : goal.decreases-loop-from
decreases-loop-from l = length l.parts - l.from
