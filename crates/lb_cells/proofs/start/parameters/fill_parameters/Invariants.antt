use Rattle.std.proofs.Common.{◌≡◌, ◌≤◌, drop}
use Rattle.lb_maps.specs.CellMap.{at}
use Rattle.lb_cells.specs.StartEntries.{rows_over}
use Rattle.lb_rows.specs.Parameters.{parameter_rows}
use Rattle.lb_values.specs.declared.cell.Cell.TheVariants as cell
use Rattle.lb_model.specs.StartState.{start_parameter}
use Rattle.lb_cells.proofs.start.parameters.fill_parameters.Given as goal

-- the rows from this place on are laid
abbrev pub invariant-loop-place : goal.invariant-loop-place
invariant-loop-place l = record {
  within : l.place ≤ 35;
  laid : at l.entries ≡ rows_over cell.Par start_parameter (drop l.place parameter_rows) (at l.fn.entries);
}

abbrev pub decreases-loop-place : goal.decreases-loop-place
decreases-loop-place l = l.place
