use Rattle.std.proofs.Common.{refl}
use Rattle.lb_base.specs.declared.node.Node.{out-Node, roll-Node}
use Rattle.lb_model.specs.HeldNumbers.{held_of}
use Rattle.lb_model.specs.Lines.{trimmed}
use Rattle.lb_model.specs.Readings.{taken}
use Rattle.lb_model.specs.StartState.{start, start_category, start_parameter}
use Rattle.lb_model.specs.Tokens.{character, characters, next_token}
use Rattle.lb_model_engine.specs.Definitions.{def_row, let_row, shorthand_row}
use Rattle.lb_model_engine.specs.Environments.{over}
use Rattle.lb_model_engine.specs.Kernel.{kernel_lines}
use Rattle.lb_model_engine.specs.Prefixes.{long_row}
use Rattle.lb_model_engine.specs.Reads.{past_spaces_or}
use Rattle.lb_model_engine.specs.Registers.{arithmetic_row, picked_row, variable_row}
use Rattle.lb_model_engine.specs.Turns.{turn, turns}
use Rattle.lb_model_expansion.specs.Expansion.{next, next_from, step}
use Rattle.lb_model_grammar.specs.Same.{tok_eq}
use Rattle.lb_model_nest.specs.Pages.{page_cleared}
use Rattle.lb_model_nest.specs.Paragraphs.{paragraph_ended}
use Rattle.lb_model_nest.specs.Words.{space, word_ended}
use Rattle.lb_model_paper.specs.Nodes.{along, shrink_of, size_of, space_of, stretch_of}
use Rattle.lb_model_paper.specs.Pages.{all_parts, are_small_on_page, cost_at, foot_size, is_block, is_discardable, is_foot, on_page, page_end, penalty_at, search_end}
use Rattle.lb_rows.specs.Commands.{command_name, command_rows}
use Rattle.lb_rows.specs.Parameters.{parameter_name, parameter_rows}
use Rattle.lb_values.specs.Categories.{categories}
use Rattle.lb_values.specs.Cells.{cell_eq}
use Rattle.lb_model_engine.proofs.rows.kernel_parts.Goals as goal

pub returns-clause-first : goal.returns-clause-first
unfolding space trimmed turns turn next next_from step taken next_token character characters start start_category command_rows command_name parameter_rows parameter_name cell_eq word_ended picked_row variable_row arithmetic_row past_spaces_or held_of over long_row categories tok_eq kernel_lines def_row let_row shorthand_row paragraph_ended page_cleared page_end search_end cost_at penalty_at is_discardable are_small_on_page on_page is_block all_parts is_foot foot_size along size_of space_of stretch_of shrink_of start_parameter out-Node roll-Node denote.Hole.Carrier.out
returns-clause-first c = refl

pub returns-clause-middle : goal.returns-clause-middle
unfolding space trimmed turns turn next next_from step taken next_token character characters start start_category command_rows command_name parameter_rows parameter_name cell_eq word_ended picked_row variable_row arithmetic_row past_spaces_or held_of over long_row categories tok_eq kernel_lines def_row let_row shorthand_row paragraph_ended page_cleared page_end search_end cost_at penalty_at is_discardable are_small_on_page on_page is_block all_parts is_foot foot_size along size_of space_of stretch_of shrink_of start_parameter out-Node roll-Node denote.Hole.Carrier.out
returns-clause-middle c = refl

pub returns-clause-last : goal.returns-clause-last
unfolding space trimmed turns turn next next_from step taken next_token character characters start start_category command_rows command_name parameter_rows parameter_name cell_eq word_ended picked_row variable_row arithmetic_row past_spaces_or held_of over long_row categories tok_eq kernel_lines def_row let_row shorthand_row paragraph_ended page_cleared page_end search_end cost_at penalty_at is_discardable are_small_on_page on_page is_block all_parts is_foot foot_size along size_of space_of stretch_of shrink_of start_parameter out-Node roll-Node denote.Hole.Carrier.out
returns-clause-last c = refl
