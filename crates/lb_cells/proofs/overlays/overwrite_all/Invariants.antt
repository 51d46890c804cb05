use Rattle.std.proofs.Common.{◌≡◌, None, length}
use Rattle.lb_maps.specs.CellMap.{held_now, KeepsEntries}
use Rattle.lb_cells.specs.StateCells.{written_over}
use Rattle.lb_cells.proofs.overlays.overwrite_all.Given as goal

abbrev pub invariant-loop-cell : goal.invariant-loop-cell
invariant-loop-cell l = record {
  there : KeepsEntries l.writes l.over.entries;
  now : written_over (held_now None l.writes) (held_now None l.over.entries) ≡ written_over (held_now None l.fn.writes) (held_now None l.fn.over.entries);
  saves : l.over.saves ≡ l.fn.over.saves;
}

abbrev pub decreases-loop-cell : goal.decreases-loop-cell
decreases-loop-cell l = length l.writes
