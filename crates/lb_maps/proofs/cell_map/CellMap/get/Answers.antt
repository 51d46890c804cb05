use Rattle.std.proofs.Common.{◌∙◌, ap, sym}
use Rattle.lb_values.specs.Cells.{cell_eq}
use Rattle.lb_maps.specs.CellMap.{at}
use Rattle.lb_maps.specs.Slots.{in_slot}
use Rattle.lb_maps.proofs.Tabled.{held-some, held-none}
use Rattle.lb_maps.proofs.cell_map.CellMap.get.Goals as goal

pub returns-in-Some : goal.returns-in-Some
returns-in-Some g c =
    let map = c.self.inside in
    c.held_in.ensures ∙ ap (λ slots. in_slot slots c.in-Some.slot) c.as_slice.ensures.value
    ∙ sym (held-some map.slots.items map.map.entries c.args.self.now c.args.cell.now c.in-Some.slot c.self.invariant.0 c.self.invariant.1 c.self.view_is (sym c.slot_of.ensures ∙ c.in-Some.is))

pub returns-in-None : goal.returns-in-None
unfolding at cell_eq
returns-in-None g c =
    let map = c.self.inside in
    c.get.ensures.value ∙ sym (held-none map.slots.items map.map.entries c.args.self.now c.args.cell.now c.self.invariant.0 c.self.invariant.1 c.self.view_is (sym c.slot_of.ensures ∙ c.in-None.is))
