use Rattle.std.proofs.Common.{◌≡◌, ◌≤◌, drop}
use Rattle.lb_maps.specs.CellMap.{at}
use Rattle.lb_cells.specs.StartEntries.{rows_over}
use Rattle.lb_values.specs.declared.cell.Cell.TheVariants as cell
use Rattle.lb_values.specs.declared.value.Value.TheVariants as value
use Rattle.lb_model.specs.StartLists.{start_counters}
use Rattle.lb_cells.proofs.start.counters.fill_counters.Given as goal

-- the rows from this place on are laid
abbrev pub invariant-loop-place : goal.invariant-loop-place
invariant-loop-place l = record {
  within : l.place ≤ 19;
  laid : at l.entries ≡ rows_over (λ counter. cell.Counter counter.0) (λ counter. value.Number counter.1) (drop l.place start_counters) (at l.fn.entries);
}

abbrev pub decreases-loop-place : goal.decreases-loop-place
decreases-loop-place l = l.place
