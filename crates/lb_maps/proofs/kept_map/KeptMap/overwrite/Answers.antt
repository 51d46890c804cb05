use Rattle.lb_maps.specs.Marked.{standing}
use Rattle.lb_maps.proofs.Saved.{AllSaved-put}
use Rattle.lb_maps.proofs.kept_map.KeptMap.overwrite.Goals as goal

pub invariant_of-self : goal.invariant_of-self
invariant_of-self g c = AllSaved-put c.self.inside.map c.overwrite.new.self (standing c.self.inside.saves) c.args.cell c.args.value c.overwrite.ensures c.self.invariant
