use Rattle.std.proofs.Common.{rules, ◌≡◌, [], subst, sym}
use Rattle.lb_maps.specs.CellMap.{at}
use Rattle.lb_maps.specs.Slots.{ArePlaced, HaveNoSlots}
use Rattle.lb_maps.proofs.Tabled.{none-placed}
use Rattle.lb_maps.proofs.cell_map.CellMap.new.Goals as goal

pub invariant_of-result : goal.invariant_of-result
invariant_of-result g c =
    let none : c.new-2.result.entries ≡ [] = search rules in
    (subst (λ slots. ArePlaced 0 slots) (sym c.new.ensures.items) tt, subst (λ es. HaveNoSlots (at es)) (sym none) none-placed)
