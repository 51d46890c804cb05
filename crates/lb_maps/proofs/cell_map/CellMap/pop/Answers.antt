use Rattle.std.proofs.Common.{◌≡◌, ◌∙◌, ◌++◌, ◌∷◌, [], Some, None, cond, ap}
use Rattle.std.specs.Option.{option_to_list}
use Rattle.lb_values.specs.Cells.{cell_eq}
use Rattle.lb_values.proofs.SameCells.{cell_eq-refl}
use Rattle.lb_maps.specs.CellMap.{at}
use Rattle.lb_maps.proofs.Tabled.{alone-in-map, at-last, no-slots-front}
use Rattle.lb_maps.proofs.cell_map.CellMap.pop.Goals as goal

pub invariant_of-self : goal.invariant_of-self
invariant_of-self g c =
    let split : c.self.inside.map.entries ≡ c.pop.new.self.entries ++ c.in-Some.entry ∷ [] = c.pop.ensures.entries ∙ ap (λ o. c.pop.new.self.entries ++ option_to_list o) c.in-Some.is in
    (c.self.invariant.0, no-slots-front c.pop.new.self.entries (c.in-Some.entry ∷ []) c.self.inside.map.entries split c.self.invariant.1)

pub returns-in-Some-clause-alone : goal.returns-in-Some-clause-alone
unfolding at cell_eq
returns-in-Some-clause-alone g c =
    let map = c.self.inside in
    let old = map.map.entries in
    let new = c.pop.new.self.entries in
    let entry = c.in-Some.entry in
    let split : old ≡ new ++ entry ∷ [] = c.pop.ensures.entries ∙ ap (λ o. new ++ option_to_list o) c.in-Some.is in
    let gone : at new entry.0 ≡ None = c.in-Some.ensures.updates.0 entry.0 ∙ ap (λ b. cond b None (at old entry.0)) (cell_eq-refl entry.0) in
    let there : at old entry.0 ≡ Some entry.1 = ap (λ es. at es entry.0) split ∙ at-last new entry gone in
    alone-in-map map.slots.items old new c.args.self.now entry.0 entry.1 c.self.invariant.0 c.self.invariant.1 (no-slots-front new (entry ∷ []) old split c.self.invariant.1) there gone
