use Rattle.std.proofs.Common.{refl}
use Rattle.lb_model.specs.HeldNumbers.{held_of}
use Rattle.lb_model.specs.Lines.{trimmed}
use Rattle.lb_model.specs.Readings.{taken}
use Rattle.lb_model.specs.StartLists.{checkpoint_names, start_counters, start_resets}
use Rattle.lb_model.specs.StartState.{start, start_category}
use Rattle.lb_model.specs.Tokens.{character, characters, next_token}
use Rattle.lb_model_counters.specs.Counters.{set_counter, step_counter}
use Rattle.lb_model_engine.specs.Counting.{refstepcounter, setcounter, stepcounter}
use Rattle.lb_model_engine.specs.Definitions.{def_row}
use Rattle.lb_model_engine.specs.Environments.{begin_row, end_row, over}
use Rattle.lb_model_engine.specs.NewNames.{newenvironment}
use Rattle.lb_model_engine.specs.Prefixes.{global_row}
use Rattle.lb_model_engine.specs.Reads.{past_spaces_or}
use Rattle.lb_model_engine.specs.Registers.{arithmetic_row, picked_row, variable_row}
use Rattle.lb_model_engine.specs.Texts.{text_rest, tokens_of_text, typeout}
use Rattle.lb_model_engine.specs.Turns.{turn, turns}
use Rattle.lb_model_expansion.specs.Expansion.{next, next_from, step}
use Rattle.lb_model_nest.specs.Boxes.{end_group}
use Rattle.lb_model_nest.specs.Groups.{begin_group_character, begingroup, end_group_character, endgroup, group_closed, group_opened}
use Rattle.lb_model_nest.specs.Words.{space, word_ended}
use Rattle.lb_rows.specs.Commands.{command_name, command_rows}
use Rattle.lb_rows.specs.Parameters.{parameter_name, parameter_rows}
use Rattle.lb_values.specs.Cells.{cell_eq}
use Rattle.lb_model_engine.proofs.rows.turns_at_work.Goals as goal

pub returns-clause-registers : goal.returns-clause-registers
unfolding space trimmed turns turn next next_from step taken next_token character characters start start_category command_rows command_name parameter_rows parameter_name cell_eq word_ended group_opened group_closed begin_group_character end_group_character end_group begingroup endgroup picked_row variable_row arithmetic_row past_spaces_or held_of global_row setcounter stepcounter refstepcounter set_counter step_counter start_counters checkpoint_names start_resets def_row text_rest
returns-clause-registers c = refl

pub returns-clause-environments : goal.returns-clause-environments
unfolding space trimmed turns turn next next_from step taken next_token character characters start start_category command_rows command_name parameter_rows parameter_name cell_eq word_ended group_opened group_closed begin_group_character end_group_character end_group begingroup endgroup picked_row variable_row arithmetic_row past_spaces_or held_of begin_row end_row over newenvironment tokens_of_text global_row
returns-clause-environments c = refl

pub returns-clause-texts : goal.returns-clause-texts
unfolding space trimmed turns turn next next_from step taken next_token character characters start start_category command_rows command_name parameter_rows parameter_name cell_eq word_ended picked_row variable_row arithmetic_row past_spaces_or held_of def_row typeout text_rest
returns-clause-texts c = refl

pub returns-clause-step_limit : goal.returns-clause-step_limit
unfolding space trimmed turns turn next next_from step taken next_token character characters start start_category command_rows command_name parameter_rows parameter_name cell_eq word_ended picked_row variable_row arithmetic_row past_spaces_or held_of
returns-clause-step_limit c = refl

pub returns-clause-steps : goal.returns-clause-steps
unfolding space trimmed turns turn next next_from step taken next_token character characters start start_category command_rows command_name parameter_rows parameter_name cell_eq word_ended picked_row variable_row arithmetic_row past_spaces_or held_of
returns-clause-steps c = refl
