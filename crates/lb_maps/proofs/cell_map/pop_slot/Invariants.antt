use Rattle.std.proofs.Common.{◌≡◌, length}
use Rattle.lb_maps.specs.Slots.{ArePlaced, filled}
use Rattle.lb_maps.proofs.cell_map.pop_slot.Given as goal

abbrev pub invariant-loop-slot : goal.invariant-loop-slot
invariant-loop-slot g l = record {
  same : filled l.slots.items ≡ filled l.fn.slots.items;
  placed : ArePlaced 0 l.fn.slots.items → ArePlaced 0 l.slots.items;
}

abbrev pub decreases-loop-slot : goal.decreases-loop-slot
decreases-loop-slot g l = length l.slots.items
