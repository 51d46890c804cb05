use Rattle.std.proofs.Common.{◌≡◌, None, take}
use Rattle.lb_maps.specs.CellMap.{held_now, KeepsEntries}
use Rattle.lb_maps.specs.Slots.{filled}
use Rattle.lb_maps.proofs.cell_map.CellMap+Option+V.make_entries_of_slots.Given as goal

abbrev pub invariant-loop-place : goal.invariant-loop-place
invariant-loop-place g l = record {
  same : held_now None l.self ≡ held_now None l.fn.self;
  keeps : KeepsEntries l.fn.self l.self;
  there : KeepsEntries (filled (take l.place l.slots)) l.self;
}
