use Rattle.lb_maps.specs.Marked.{standing}
use Rattle.lb_maps.proofs.Saved.{AllSaved-kept, AllSaved-push}
use Rattle.lb_maps.proofs.kept_map.KeptMap.save.Goals as goal

pub invariant_of-self : goal.invariant_of-self
invariant_of-self g c = AllSaved-kept c.self.inside.map c.make_entry.new.self (standing c.self.inside.saves) c.make_entry.ensures.keeps c.self.invariant

pub invariant_of-self-in_err-push : goal.invariant_of-self-in_err-push
invariant_of-self-in_err-push g c =
    rw c.in_err-push.ensures.err (AllSaved-kept c.self.inside.map c.make_entry.new.self (standing c.self.inside.saves) c.make_entry.ensures.keeps c.self.invariant)

pub invariant_of-self-2 : goal.invariant_of-self-2
invariant_of-self-2 g c =
    AllSaved-push c.make_entry.new.self c.in_ok-key.key c.args.now (standing c.push.new.self) (standing c.self.inside.saves) c.in_ok-push.ensures.ok
    c.in_ok-make_entry.ensures.there
    (AllSaved-kept c.self.inside.map c.make_entry.new.self (standing c.self.inside.saves) c.make_entry.ensures.keeps c.self.invariant)
