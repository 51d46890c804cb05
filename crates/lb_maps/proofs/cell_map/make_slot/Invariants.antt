use Rattle.std.proofs.Common.{◌≡◌, ◌-◌, ◌+◌, ◌≤◌, length}
use Rattle.lb_maps.specs.Slots.{ArePlaced, filled, in_slot}
use Rattle.lb_maps.proofs.cell_map.make_slot.Given as goal

abbrev pub invariant-loop-slots : goal.invariant-loop-slots
invariant-loop-slots g l = record {
  same : filled l.slots.items ≡ filled l.fn.slots.items;
  placed : ArePlaced 0 l.fn.slots.items → ArePlaced 0 l.slots.items;
  held : in_slot l.slots.items ≡ in_slot l.fn.slots.items;
  grows : length l.fn.slots.items ≤ length l.slots.items;
}

abbrev pub decreases-loop-slots : goal.decreases-loop-slots
decreases-loop-slots g l = l.slot + 1 - length l.slots.items
