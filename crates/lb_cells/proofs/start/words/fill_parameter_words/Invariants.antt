use Rattle.std.proofs.Common.{◌≡◌, ◌≤◌, drop}
use Rattle.lb_maps.specs.CellMap.{at}
use Rattle.lb_cells.specs.StartEntries.{rows_over}
use Rattle.lb_rows.specs.Parameters.{parameter_name, parameter_rows}
use Rattle.lb_values.specs.declared.cell.Cell.TheVariants as cell
use Rattle.lb_model.specs.StartState.{parameter_meaning}
use Rattle.lb_cells.proofs.start.words.fill_parameter_words.Given as goal

-- the rows from this place on are laid
abbrev pub invariant-loop-place : goal.invariant-loop-place
invariant-loop-place l = record {
  within : l.place ≤ 35;
  laid : at l.entries ≡ rows_over (λ parameter. cell.Word (parameter_name parameter)) parameter_meaning (drop l.place parameter_rows) (at l.fn.entries);
}

abbrev pub decreases-loop-place : goal.decreases-loop-place
decreases-loop-place l = l.place
