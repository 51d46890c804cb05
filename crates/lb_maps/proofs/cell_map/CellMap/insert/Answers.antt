use Rattle.std.proofs.Common.{◌≡◌, ◌≤◌, ◌∙◌, Some, length, ap, sym}
use Rattle.lb_values.specs.Cells.{cell_eq}
use Rattle.lb_maps.specs.CellMap.{at}
use Rattle.lb_maps.specs.Slots.{slot_of}
use Rattle.lb_maps.proofs.Saved.{on_err}
use Rattle.lb_maps.proofs.Tabled.{held-some, held-none, in_slot-past, placed-slot, after-slot, after-hash, no-slots-put}
use Rattle.lb_maps.proofs.cell_map.CellMap.insert.Goals as goal
use Rattle.lb_maps.proofs.cell_map.CellMap.insert.Goals.{in-Some-1, in-None-1, in-Some-2, in-None-2}

pub returns-in_err-make_slot-in-Some-clause-absent : goal.returns-in_err-make_slot-in-Some-clause-absent
returns-in_err-make_slot-in-Some-clause-absent g c =
    let map = c.self.inside in
    let is : slot_of c.args.cell ≡ Some c.in-Some.slot = sym c.slot_of.ensures ∙ c.in-Some.is in
    let short : length map.slots.items ≤ c.in-Some.slot = c.in_err-make_slot-in-Some.ensures.short in
    on_err c.from_residual.result (held-some map.slots.items map.map.entries c.args.self.now c.args.cell c.in-Some.slot c.self.invariant.0 c.self.invariant.1 c.self.view_is is ∙ in_slot-past map.slots.items c.in-Some.slot short)

pub invariant_of-self-in_ok-make_slot-in-Some : goal.invariant_of-self-in_ok-make_slot-in-Some
invariant_of-self-in_ok-make_slot-in-Some g c =
    (placed-slot c.make_slot.new.slots.items c.args.cell c.args.value c.in-Some.slot (sym c.slot_of.ensures ∙ c.in-Some.is) (c.make_slot.ensures.placed c.self.invariant.0), c.self.invariant.1)

pub invariant_of-self-in_ok-make_slot-in-Some-2 : goal.invariant_of-self-in_ok-make_slot-in-Some-2
invariant_of-self-in_ok-make_slot-in-Some-2 g c =
    (placed-slot c.make_slot.new.slots.items c.args.cell c.args.value c.in-Some.slot (sym c.slot_of.ensures ∙ c.in-Some.is) (c.make_slot.ensures.placed c.self.invariant.0), c.self.invariant.1)

pub returns-in_err-insert-in-None-clause-absent : goal.returns-in_err-insert-in-None-clause-absent
unfolding at cell_eq
returns-in_err-insert-in-None-clause-absent g c =
    let map = c.self.inside in
    on_err c.from_residual-in_err-insert-in-None.result
    (held-none map.slots.items map.map.entries c.args.self.now c.args.cell c.self.invariant.0 c.self.invariant.1 c.self.view_is (sym c.slot_of.ensures ∙ c.in-None.is) ∙ c.in_err-insert-in-None.ensures.absent)

pub invariant_of-self-in_ok-insert-in-None : goal.invariant_of-self-in_ok-insert-in-None
unfolding at cell_eq
invariant_of-self-in_ok-insert-in-None g c =
    (c.self.invariant.0, no-slots-put c.self.inside.map.entries c.insert.new.self.entries c.args.cell c.args.value (sym c.slot_of.ensures ∙ c.in-None.is) (λ i q. c.in_ok-insert-in-None.ensures.updates.0 q i) c.self.invariant.1)

pub invariant_of-self-in_ok-insert-in-None-2 : goal.invariant_of-self-in_ok-insert-in-None-2
unfolding at cell_eq
invariant_of-self-in_ok-insert-in-None-2 g c =
    (c.self.invariant.0, no-slots-put c.self.inside.map.entries c.insert.new.self.entries c.args.cell c.args.value (sym c.slot_of.ensures ∙ c.in-None.is) (λ i q. c.in_ok-insert-in-None.ensures.updates.0 q i) c.self.invariant.1)

pub returns-in_ok-make_slot-in-Some-clause-after : goal.returns-in_ok-make_slot-in-Some-clause-after
returns-in_ok-make_slot-in-Some-clause-after g c =
    let map = c.self.inside in
    let after = after-slot map.slots.items c.make_slot.new.slots.items map.map.entries c.args.self.now c.args.cell c.args.value c.in-Some.slot c.self.invariant.0 c.self.invariant.1 c.self.view_is
    (c.make_slot.ensures.placed c.self.invariant.0) c.make_slot.ensures.same (sym c.slot_of.ensures ∙ c.in-Some.is) c.in_ok-make_slot-in-Some.ensures.there in
    elim c.match-index_mut.branch [ in-Some-1 w ↦ ap at w.self-is ∙ after | in-None-1 w ↦ ap at w.self-is ∙ after ]

pub returns-in_ok-insert-in-None-clause-after : goal.returns-in_ok-insert-in-None-clause-after
unfolding at cell_eq
returns-in_ok-insert-in-None-clause-after g c =
    let map = c.self.inside in
    let after = after-hash map.slots.items map.map.entries c.insert.new.self.entries c.args.self.now c.args.cell c.args.value c.self.invariant.0 c.self.invariant.1 c.self.view_is
    (sym c.slot_of.ensures ∙ c.in-None.is) (λ i q. c.in_ok-insert-in-None.ensures.updates.0 q i) in
    elim c.match-branch-3.branch [ in-Some-2 w ↦ ap at w.self-is ∙ after | in-None-2 w ↦ ap at w.self-is ∙ after ]
