use Rattle.std.proofs.Common.{◌∙◌, ap}
use Rattle.lb_maps.specs.CellMap.{at}
use Rattle.lb_cells.specs.StartEntries.{resets_over, counters_over, commands_over, parameter_words_over, parameters_over}
use Rattle.lb_cells.proofs.StartSteps.{at-none}
use Rattle.lb_cells.proofs.start.tables_at_start.Goals as goal

pub returns : goal.returns
returns c =
    c.in_ok-fill_resets.ensures
    ∙ ap resets_over (c.in_ok-fill_counters.ensures
    ∙ ap counters_over (c.in_ok-fill_commands.ensures
    ∙ ap commands_over (c.in_ok-fill_parameter_words.ensures
    ∙ ap parameter_words_over (c.in_ok-fill_parameters.ensures
    ∙ ap parameters_over (ap at c.new-entries.ensures ∙ at-none)))))
