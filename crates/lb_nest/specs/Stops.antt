-- How a row ends with what stopped a call.
use Rattle.std.specs.Prelude.{◌≡◌}
use Rattle.lb_base.specs.declared.fault.Stop.{Stop}
use Rattle.lb_base.specs.declared.fault.Stop.TheVariants.{At, Fault, Memory}
use Rattle.lb_model_nest.specs.declared.turn.Went.{Went}
use Rattle.lb_model_nest.specs.declared.turn.Went.TheVariants.{Stopped}

-- a row ends so where a call stopped so
abbrev pub IsStopOf : Stop → Went → Type 0
IsStopOf (Fault kind) went = went ≡ Stopped kind
IsStopOf Memory went = ⊥
IsStopOf (At fault) went = ⊥
