use Rattle.std.proofs.Common.{refl}
use Rattle.lb_base.specs.declared.node.Node.{out-Node, roll-Node}
use Rattle.lb_model.specs.Assignments.{glue_value}
use Rattle.lb_model.specs.HeldNumbers.{held_of}
use Rattle.lb_model.specs.Lines.{trimmed}
use Rattle.lb_model.specs.Readings.{taken}
use Rattle.lb_model.specs.StartLists.{checkpoint_names, start_counters}
use Rattle.lb_model.specs.StartState.{start, start_category, start_parameter}
use Rattle.lb_model.specs.Tokens.{character, characters, next_token}
use Rattle.lb_model_counters.specs.Counters.{new_counter, set_counter}
use Rattle.lb_model_engine.specs.Boxes.{box_begun}
use Rattle.lb_model_engine.specs.Counting.{newcounter, setcounter}
use Rattle.lb_model_engine.specs.Definitions.{def_row}
use Rattle.lb_model_engine.specs.Documents.{documentclass}
use Rattle.lb_model_engine.specs.Environments.{begin_row, end_row, over}
use Rattle.lb_model_engine.specs.Items.{vskip}
use Rattle.lb_model_engine.specs.Lists.{endlist_row, item_row, list_row}
use Rattle.lb_model_engine.specs.NewNames.{newcommand, newenvironment}
use Rattle.lb_model_engine.specs.Reads.{past_spaces_or}
use Rattle.lb_model_engine.specs.Registers.{arithmetic_row, picked_row, variable_row}
use Rattle.lb_model_engine.specs.Texts.{tokens_of_text}
use Rattle.lb_model_engine.specs.Turns.{turn, turns}
use Rattle.lb_model_expansion.specs.Expansion.{next, next_from, step}
use Rattle.lb_model_grammar.specs.Same.{tok_eq}
use Rattle.lb_model_nest.specs.Boxes.{end_group, list_opened}
use Rattle.lb_model_nest.specs.Groups.{begin_group_character, begingroup, end_group_character, endgroup, group_closed, group_opened}
use Rattle.lb_model_nest.specs.Pages.{added, page_added, page_cleared, pages_shipped}
use Rattle.lb_model_nest.specs.Paragraphs.{paragraph_ended}
use Rattle.lb_model_nest.specs.Words.{space, word_ended}
use Rattle.lb_model_paper.specs.Nodes.{along, shrink_of, size_of, space_of, stretch_of}
use Rattle.lb_model_paper.specs.Pages.{all_parts, are_small_on_page, cost_at, foot_size, is_block, is_discardable, is_foot, next_part, on_page, page_end, penalty_at, search_end}
use Rattle.lb_rows.specs.Commands.{command_name, command_rows}
use Rattle.lb_rows.specs.Parameters.{parameter_name, parameter_rows}
use Rattle.lb_rows.specs.Refusals.{refused_rows}
use Rattle.lb_values.specs.Categories.{categories}
use Rattle.lb_values.specs.Cells.{cell_eq}
use Rattle.lb_model_engine.proofs.rows.chapters_that_stop.Goals as goal

pub returns-clause-names : goal.returns-clause-names
unfolding space trimmed turns turn next next_from step taken next_token character characters start start_category command_rows command_name parameter_rows parameter_name cell_eq word_ended group_opened group_closed begin_group_character end_group_character end_group begingroup endgroup over newcommand newcounter new_counter refused_rows start_counters checkpoint_names
returns-clause-names c = refl

pub returns-clause-numbers : goal.returns-clause-numbers
unfolding space trimmed turns turn next next_from step taken next_token character characters start start_category command_rows command_name parameter_rows parameter_name cell_eq word_ended picked_row variable_row arithmetic_row past_spaces_or held_of categories setcounter set_counter start_counters checkpoint_names
returns-clause-numbers c = refl

pub returns-clause-rows : goal.returns-clause-rows
unfolding space trimmed turns turn next next_from step taken next_token character characters start start_category command_rows command_name parameter_rows parameter_name cell_eq word_ended group_opened group_closed begin_group_character end_group_character end_group begingroup endgroup tok_eq past_spaces_or def_row box_begun list_opened vskip item_row refused_rows documentclass checkpoint_names
returns-clause-rows c = refl

pub returns-clause-environments : goal.returns-clause-environments
unfolding space trimmed turns turn next next_from step taken next_token character characters start start_category command_rows command_name parameter_rows parameter_name cell_eq word_ended group_opened group_closed begin_group_character end_group_character end_group begingroup endgroup begin_row end_row over newenvironment tokens_of_text tok_eq past_spaces_or def_row endlist_row paragraph_ended
returns-clause-environments c = refl

pub returns-clause-lists : goal.returns-clause-lists
unfolding space trimmed turns turn next next_from step taken next_token character characters start start_category command_rows command_name parameter_rows parameter_name cell_eq word_ended group_opened group_closed begin_group_character end_group_character end_group begingroup endgroup begin_row end_row over newenvironment tokens_of_text picked_row variable_row arithmetic_row past_spaces_or held_of list_row endlist_row paragraph_ended added page_added pages_shipped page_cleared next_part page_end search_end cost_at penalty_at is_discardable are_small_on_page on_page is_block all_parts is_foot foot_size along size_of space_of stretch_of shrink_of glue_value start_parameter out-Node roll-Node denote.Hole.Carrier.out
returns-clause-lists c = refl

pub returns-clause-ended : goal.returns-clause-ended
unfolding space trimmed turns turn next next_from step taken next_token character characters start start_category command_rows command_name parameter_rows parameter_name cell_eq word_ended group_opened group_closed begin_group_character end_group_character end_group begingroup endgroup begin_row end_row over newenvironment tokens_of_text picked_row variable_row arithmetic_row past_spaces_or held_of list_row endlist_row paragraph_ended added page_added pages_shipped page_cleared next_part page_end search_end cost_at penalty_at is_discardable are_small_on_page on_page is_block all_parts is_foot foot_size along size_of space_of stretch_of shrink_of glue_value start_parameter out-Node roll-Node denote.Hole.Carrier.out
returns-clause-ended c = refl

pub returns-clause-inside : goal.returns-clause-inside
unfolding space trimmed turns turn next next_from step taken next_token character characters start start_category command_rows command_name parameter_rows parameter_name cell_eq word_ended past_spaces_or held_of item_row list_row endlist_row paragraph_ended
returns-clause-inside c = refl
