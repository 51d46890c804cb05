use Rattle.lb_maps.specs.Marked.{standing}
use Rattle.lb_maps.proofs.Saved.{AllSaved-put, AllSaved-tail}
use Rattle.lb_maps.proofs.kept_map.KeptMap.put_back.Goals as goal

pub invariant_of-self : goal.invariant_of-self
invariant_of-self g c =
    let old = c.self.inside in
    let popped = rw c.in-Some-Some.field-0-is at c.in-Some-Some.ensures in
    AllSaved-put old.map c.overwrite.new.self (standing c.pop.new.self) c.in-Some-Some.cell c.in-Some-Some.value c.overwrite.ensures (AllSaved-tail old.map _ (standing old.saves) (standing c.pop.new.self) popped c.self.invariant)
