use Rattle.std.proofs.Common.{◌≡◌, drop}
use Rattle.lb_tfm_make.specs.FontSpecs.{are_right_steps}
use Rattle.lb_tfm_make.proofs.valid.are_right_steps.Given as goal

abbrev pub invariant-loop-step : goal.invariant-loop-step
invariant-loop-step l = are_right_steps l.rows (drop l.step-index l.steps) ≡ are_right_steps l.rows l.steps
