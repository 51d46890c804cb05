use Rattle.std.proofs.Common.{◌∙◌, ◌++◌, ◌∷◌, [], ap, sym, subst}
use Rattle.lb_maps.specs.Slots.{ArePlaced, filled}
use Rattle.lb_maps.proofs.Tabled.{filled-append, filled-push, placed-front, alone-in-slots}
use Rattle.lb_maps.proofs.cell_map.pop_slot.Goals as goal

pub returns-in-Some-slot-clause-entry : goal.returns-in-Some-slot-clause-entry
returns-in-Some-slot-clause-entry g c =
    sym c.loop-slot.invariant.same ∙ ap filled c.in-Some.ensures.items ∙ ap (λ s. filled (c.pop.new.self.items ++ s ∷ [])) c.in-Some-slot.is ∙ filled-append c.pop.new.self.items _

pub returns-in-Some-slot-clause-placed : goal.returns-in-Some-slot-clause-placed
returns-in-Some-slot-clause-placed g c = λ a. placed-front 0 c.pop.new.self.items (c.in-Some.slot ∷ []) (subst (ArePlaced 0) c.in-Some.ensures.items (c.loop-slot.invariant.placed a))

pub loop-slot-preserved : goal.loop-slot-preserved
loop-slot-preserved g c = record {
  same = sym (ap filled c.in-Some.ensures.items ∙ ap (λ s. filled (c.pop.new.self.items ++ s ∷ [])) c.in_default-slot.is ∙ filled-push c.pop.new.self.items) ∙ c.loop-slot.invariant.same;
  placed = λ a. placed-front 0 c.pop.new.self.items (c.in-Some.slot ∷ []) (subst (ArePlaced 0) c.in-Some.ensures.items (c.loop-slot.invariant.placed a));
}

pub returns-in-Some-slot-clause-alone : goal.returns-in-Some-slot-clause-alone
returns-in-Some-slot-clause-alone g c = λ a.
    alone-in-slots c.pop.new.self.items c.in-Some-slot.entry (subst (ArePlaced 0) (c.in-Some.ensures.items ∙ ap (λ s. c.pop.new.self.items ++ s ∷ []) c.in-Some-slot.is) (c.loop-slot.invariant.placed a))
