use Rattle.std.proofs.Common.{◌≡◌}
use Rattle.lb_maps.specs.CellMap.{at}
use Rattle.lb_cells.specs.StartEntries.{codes_below}
use Rattle.lb_cells.proofs.start.codes.fill_codes.Given as goal

abbrev pub invariant-loop-code : goal.invariant-loop-code
invariant-loop-code l = at l.entries ≡ codes_below l.code (at l.fn.entries)
