use Rattle.std.proofs.Common.{◌≡◌, ◌≤◌, drop}
use Rattle.lb_values.specs.declared.cell.Cell.TheVariants as cell
use Rattle.lb_values.specs.declared.value.Value.TheVariants as value
use Rattle.lb_model.specs.StartLists.{start_resets}
use Rattle.lb_maps.specs.CellMap.{at}
use Rattle.lb_cells.specs.StartEntries.{rows_over}
use Rattle.lb_cells.proofs.start.counters.fill_resets.Given as goal

-- the rows from this place on are laid
abbrev pub invariant-loop-place : goal.invariant-loop-place
invariant-loop-place l = record {
  within : l.place ≤ 5;
  laid : at l.entries ≡ rows_over (λ row. cell.Resets row.0) (λ row. value.Names row.1) (drop l.place start_resets) (at l.fn.entries);
}

abbrev pub decreases-loop-place : goal.decreases-loop-place
decreases-loop-place l = l.place
