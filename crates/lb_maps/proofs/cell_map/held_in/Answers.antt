use Rattle.std.proofs.Common.{◌<◌, ◌∙◌, length, sym, arith}
use Rattle.lb_maps.proofs.Tabled.{in_slot-some, in_slot-none, in_slot-past}
use Rattle.lb_maps.proofs.cell_map.held_in.Goals as goal

pub returns-then-slot-slots : goal.returns-then-slot-slots
returns-then-slot-slots g c = sym (in_slot-past c.args.slots.now c.args.slot c.if-slot-slots.true)

pub returns-in-Some : goal.returns-in-Some
returns-in-Some g c =
    let within : c.args.slot < length c.args.slots.now = omega (arith, c.if-slot-slots.false) in
    sym (in_slot-some c.args.slots.now c.args.slot _ c.in-Some.entry within (sym c.index-slots-slot.is ∙ c.in-Some.is))

pub returns-in-None : goal.returns-in-None
returns-in-None g c =
    let within : c.args.slot < length c.args.slots.now = omega (arith, c.if-slot-slots.false) in
    sym (in_slot-none c.args.slots.now c.args.slot _ within (sym c.index-slots-slot.is ∙ c.in-None.is))
