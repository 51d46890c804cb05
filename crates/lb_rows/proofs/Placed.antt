-- Each command and each parameter stands in its table, at the place of its name.
use Rattle.std.proofs.Common.{◌≡◌, refl, Some}
use Rattle.std.specs.Option.{option_and_then}
use Rattle.std.specs.List.{slice_get}
use Rattle.lb_rows.specs.declared.command.Command.{Command}
use Rattle.lb_rows.specs.declared.command.Command.TheVariants.{ControlSpace}
use Rattle.lb_rows.specs.declared.parameter.Parameter.{Parameter}
use Rattle.lb_rows.specs.declared.parameter.Parameter.TheVariants.{AdjDemerits}
use Rattle.lb_rows.specs.Names.{place_of}
use Rattle.lb_rows.specs.Commands.{command_name, command_names, command_rows}
use Rattle.lb_rows.specs.Parameters.{parameter_name, parameter_names, parameter_rows}

pub command_placed : (command : Command) → option_and_then (slice_get command_rows) (place_of command_names (command_name command)) ≡ Some command
unfolding command_name command_rows
command_placed ControlSpace = refl
command_placed _ = refl

pub parameter_placed : (parameter : Parameter) → option_and_then (slice_get parameter_rows) (place_of parameter_names (parameter_name parameter)) ≡ Some parameter
unfolding parameter_name parameter_rows
parameter_placed AdjDemerits = refl
parameter_placed _ = refl
