use Rattle.lb_maps.specs.Marked.{standing}
use Rattle.lb_maps.proofs.Saved.{AllSaved-put}
use Rattle.lb_maps.proofs.kept_map.KeptMap.change_locally.Goals as goal

pub invariant_of-self-2 : goal.invariant_of-self-2
invariant_of-self-2 g c =
    let old = c.self.inside in
    AllSaved-put old.map c.insert.new.self (standing old.saves) c.in_ok-key.key c.args.value c.in_ok-insert.ensures.after c.self.invariant
