-- Answers of calls that take no memory.
use Rattle.std.specs.Prelude.{Result, Ok, Err}
use Rattle.lb_base.specs.declared.fault.Kind.{Kind}
use Rattle.lb_base.specs.declared.fault.Stop.{Stop}
use Rattle.lb_base.specs.declared.fault.Stop.TheVariants.{Fault}

abbrev pub as_stop : {X : Type 0} → Result X Kind → Result X Stop
as_stop (Ok x) = Ok x
as_stop (Err kind) = Err (Fault kind)
