use Rattle.std.proofs.Common.{◌∙◌, ap, Option}
use Rattle.std.specs.Option.{option_map_or}
use Rattle.lb_rows.specs.declared.command.Command.{Command}
use Rattle.lb_rows.specs.declared.parameter.Parameter.{Parameter}
use Rattle.lb_rows.specs.Commands.{command_name, command_rows}
use Rattle.lb_rows.specs.Parameters.{parameter_name, parameter_rows}
use Rattle.lb_values.specs.declared.meaning.Meaning.TheVariants.{Row}
use Rattle.lb_values.specs.declared.value.Value.{Value}
use Rattle.lb_values.specs.declared.value.Value.TheVariants.{Absent, Meaning}
use Rattle.lb_model.specs.StartState.{start, row_named, parameter_meaning}
use Rattle.lb_model.proofs.StartWords.{own-row, no-row}
use Rattle.lb_model.proofs.laws.start_means_the_rows.Goals as goal

abbrev meant : Option Command → Option Parameter → Value
meant command parameter = option_map_or (λ row. Meaning (Row row)) command (option_map_or parameter_meaning parameter Absent)

pub returns-clause-commands : goal.returns-clause-commands
unfolding start
returns-clause-commands c = λ command.
    ap (λ found. meant found (row_named parameter_name parameter_rows (command_name command)))
    (own-row command_name command_rows command c.names_and_rows.ensures.commands_told (c.names_and_rows.ensures.commands_listed command))

pub returns-clause-parameters : goal.returns-clause-parameters
unfolding start
returns-clause-parameters c = λ parameter.
    let none = no-row command_name command_rows (parameter_name parameter) (λ command. c.each_name_in_one_table.ensures.commands_parameters (parameter_name parameter) command (c.names_and_rows.ensures.parameters_listed parameter)) in
    ap (λ found. meant found (row_named parameter_name parameter_rows (parameter_name parameter))) none
    ∙ ap (λ found. option_map_or parameter_meaning found Absent) (own-row parameter_name parameter_rows parameter c.names_and_rows.ensures.parameters_told (c.names_and_rows.ensures.parameters_listed parameter))

pub returns-clause-others : goal.returns-clause-others
unfolding start
returns-clause-others c = λ name no_command no_parameter i. meant (no-row command_name command_rows name no_command i) (no-row parameter_name parameter_rows name no_parameter i)
