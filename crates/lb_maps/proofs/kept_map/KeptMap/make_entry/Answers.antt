use Rattle.lb_maps.specs.Marked.{standing}
use Rattle.lb_maps.proofs.Saved.{AllSaved-kept}
use Rattle.lb_maps.proofs.kept_map.KeptMap.make_entry.Goals as goal

pub invariant_of-self : goal.invariant_of-self
invariant_of-self g c = AllSaved-kept c.self.inside.map c.make_entry.new.self (standing c.self.inside.saves) c.make_entry.ensures.keeps c.self.invariant

pub invariant_of-self-2 : goal.invariant_of-self-2
invariant_of-self-2 g c = AllSaved-kept c.self.inside.map c.make_entry.new.self (standing c.self.inside.saves) c.make_entry.ensures.keeps c.self.invariant
