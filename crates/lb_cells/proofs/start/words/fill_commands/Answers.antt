use Rattle.std.proofs.Common.{◌∙◌, Some, ap, arith, refl, rules}
use Rattle.lb_rows.specs.Commands.{command_name, command_rows}
use Rattle.lb_values.specs.declared.cell.Cell.TheVariants as cell
use Rattle.lb_values.specs.declared.meaning.Meaning.TheVariants as meaning
use Rattle.lb_values.specs.declared.value.Value.TheVariants as value
use Rattle.lb_values.specs.Kept.{put}
use Rattle.lb_maps.specs.CellMap.{at}
use Rattle.lb_cells.proofs.StartSteps.{rows_over-back}
use Rattle.lb_cells.proofs.start.words.fill_commands.Goals as goal

pub loop-place-init : goal.loop-place-init
unfolding command_rows
loop-place-init c = record { within = omega arith; laid = refl }

pub loop-place-preserved : goal.loop-place-preserved
loop-place-preserved c = record {
  within = omega arith;
  laid = c.in_ok-fill_word.ensures
      ∙ ap (λ n. put (cell.Word n) (Some (value.Meaning (meaning.Row c.at-command.result))) (at c.loop-place.entries)) c.name.ensures
      ∙ rows_over-back (λ command. cell.Word (command_name command)) (λ command. value.Meaning (meaning.Row command)) command_rows c.loop-place.place c.at-command.result
      (at c.loop-place.entries) (at c.args.entries.now) (omega arith) c.at-command.ensures c.loop-place.invariant.laid;
}

pub at-command-requires : goal.at-command-requires
unfolding command_rows
at-command-requires c = search rules
