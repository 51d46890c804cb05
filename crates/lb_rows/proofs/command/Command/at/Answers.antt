use Rattle.std.proofs.lemmas.Option.{slice_get-get_or}
use Rattle.lb_rows.specs.declared.command.Command.TheVariants.{ControlSpace}
use Rattle.lb_rows.specs.Commands.{command_rows}
use Rattle.lb_rows.proofs.command.Command.at.Goals as goal

pub returns : goal.returns
unfolding command_rows
returns c = slice_get-get_or command_rows c.args.place ControlSpace c.requires
