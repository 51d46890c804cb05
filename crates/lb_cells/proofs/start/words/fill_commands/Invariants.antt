use Rattle.std.proofs.Common.{◌≡◌, ◌≤◌, drop}
use Rattle.lb_maps.specs.CellMap.{at}
use Rattle.lb_cells.specs.StartEntries.{rows_over}
use Rattle.lb_rows.specs.Commands.{command_name, command_rows}
use Rattle.lb_values.specs.declared.cell.Cell.TheVariants as cell
use Rattle.lb_values.specs.declared.value.Value.TheVariants as value
use Rattle.lb_values.specs.declared.meaning.Meaning.TheVariants as meaning
use Rattle.lb_cells.proofs.start.words.fill_commands.Given as goal

-- the rows from this place on are laid
abbrev pub invariant-loop-place : goal.invariant-loop-place
invariant-loop-place l = record {
  within : l.place ≤ 142;
  laid : at l.entries ≡ rows_over (λ command. cell.Word (command_name command)) (λ command. value.Meaning (meaning.Row command)) (drop l.place command_rows) (at l.fn.entries);
}

abbrev pub decreases-loop-place : goal.decreases-loop-place
decreases-loop-place l = l.place
