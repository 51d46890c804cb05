use Rattle.std.proofs.Common.{rules, ◌≡◌, [], subst, sym}
use Rattle.lb_maps.specs.CellMap.{at}
use Rattle.lb_maps.specs.Slots.{ArePlaced, HaveNoSlots}
use Rattle.lb_maps.proofs.Tabled.{none-placed}
use Rattle.lb_maps.proofs.cell_map.CellMap.clear.Goals as goal

pub invariant_of-self : goal.invariant_of-self
invariant_of-self g c =
    let none : c.clear-2.new.self.entries ≡ [] = search rules in
    (subst (λ slots. ArePlaced 0 slots) (sym c.clear.ensures.items) tt, subst (λ es. HaveNoSlots (at es)) (sym none) none-placed)
