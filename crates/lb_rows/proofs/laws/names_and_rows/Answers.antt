use Rattle.lb_rows.specs.Commands.{command_name, command_rows}
use Rattle.lb_rows.specs.Parameters.{parameter_name, parameter_rows}
use Rattle.lb_rows.proofs.Named.{listed, told_by_name}
use Rattle.lb_rows.proofs.Placed.{command_placed, parameter_placed}
use Rattle.lb_rows.proofs.laws.names_and_rows.Goals as goal

pub returns-clause-commands_listed : goal.returns-clause-commands_listed
returns-clause-commands_listed c = listed command_name command_rows command_placed

pub returns-clause-commands_told : goal.returns-clause-commands_told
returns-clause-commands_told c = told_by_name command_name command_rows command_placed

pub returns-clause-parameters_listed : goal.returns-clause-parameters_listed
returns-clause-parameters_listed c = listed parameter_name parameter_rows parameter_placed

pub returns-clause-parameters_told : goal.returns-clause-parameters_told
returns-clause-parameters_told c = told_by_name parameter_name parameter_rows parameter_placed
