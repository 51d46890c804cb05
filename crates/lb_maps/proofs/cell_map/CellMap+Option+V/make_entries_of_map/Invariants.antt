use Rattle.std.proofs.Common.{◌≡◌, None, take}
use Rattle.lb_maps.specs.CellMap.{held_now, KeepsEntries}
use Rattle.lb_maps.proofs.cell_map.CellMap+Option+V.make_entries_of_map.Given as goal

abbrev pub invariant-loop-place : goal.invariant-loop-place
invariant-loop-place g l = record {
  same : held_now None l.self ≡ held_now None l.fn.self;
  keeps : KeepsEntries l.fn.self l.self;
  there : KeepsEntries (take l.place l.map.entries) l.self;
}
