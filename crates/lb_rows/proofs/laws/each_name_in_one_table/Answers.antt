use Rattle.std.proofs.Common.{refl}
use Rattle.lb_rows.specs.Commands.{command_name, command_names, command_rows}
use Rattle.lb_rows.specs.Parameters.{parameter_name, parameter_names, parameter_rows}
use Rattle.lb_rows.specs.Refusals.{refused_names, refused_rows}
use Rattle.lb_rows.proofs.Apart.{apart}
use Rattle.lb_rows.proofs.laws.each_name_in_one_table.Goals as goal

pub returns-clause-commands_parameters : goal.returns-clause-commands_parameters
unfolding command_name command_rows parameter_name parameter_rows
returns-clause-commands_parameters c = apart command_names parameter_names refl

pub returns-clause-commands_refused : goal.returns-clause-commands_refused
unfolding command_name command_rows refused_rows
returns-clause-commands_refused c = apart command_names refused_names refl

pub returns-clause-parameters_refused : goal.returns-clause-parameters_refused
unfolding parameter_name parameter_rows refused_rows
returns-clause-parameters_refused c = apart parameter_names refused_names refl
