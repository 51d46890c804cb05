-- How a row goes on by what a command on cells answered.
use Rattle.std.specs.Prelude.{Option, Some, None, Result, Ok, Err}
use Rattle.lb_base.specs.declared.fault.Stop.{Stop}
use Rattle.lb_base.specs.declared.fault.Stop.TheVariants.{Memory, Fault, At}
use Rattle.lb_model_nest.specs.declared.turn.Went.TheVariants.{Stopped, StoppedAt}
use Rattle.lb_engine.specs.declared.reading.Reading.{Reading}
use Rattle.lb_engine.specs.declared.reading.Reading.TheVariants as reading

-- what was answered, or the fault at which the row ends; None where memory was wanted
abbrev pub settled : {X : Type 0} → Result X Stop → Option (Reading X)
settled (Ok x) = Some (reading.Of x)
settled (Err Memory) = None
settled (Err (Fault kind)) = Some (reading.Stops (Stopped kind))
settled (Err (At fault)) = Some (reading.Stops (StoppedAt fault))
