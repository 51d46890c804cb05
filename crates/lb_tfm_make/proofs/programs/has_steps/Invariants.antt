use Rattle.std.proofs.Common.{◌≡◌, drop}
use Rattle.std.specs.List.{list_any}
use Rattle.lb_tfm_make.specs.FontBytes.{is_left}
use Rattle.lb_tfm_make.proofs.programs.has_steps.Given as goal

abbrev pub invariant-loop-step : goal.invariant-loop-step
invariant-loop-step l = list_any (is_left l.code) (drop l.step-index l.steps) ≡ list_any (is_left l.code) l.steps
