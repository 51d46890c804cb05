-- What the closing of a group answers.
use Rattle.std.specs.Prelude.{Bool, true, false, Result, Ok, Err}
use Rattle.lb_base.specs.declared.fault.Kind.TheVariants.{GroupExtra}
use Rattle.lb_base.specs.declared.fault.Stop.{Stop}
use Rattle.lb_base.specs.declared.fault.Stop.TheVariants.{Fault}

-- where the innermost group is of the kind that is closed
abbrev pub closing : Bool → Result Unit Stop
closing true = Ok tt
closing false = Err (Fault GroupExtra)
