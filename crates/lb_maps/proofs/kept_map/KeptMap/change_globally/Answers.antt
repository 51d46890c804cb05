use Rattle.std.proofs.Common.{◌≡◌, ◌∙◌, [], ap, map, sym}
use Rattle.std.proofs.lemmas.Result.{on_ok_weaker}
use Rattle.lb_values.specs.Kept.{put, void_save}
use Rattle.lb_maps.specs.CellMap.{held_now}
use Rattle.lb_maps.specs.Marked.{standing}
use Rattle.lb_maps.proofs.Saved.{AllSaved-put, AllSaved-void}
use Rattle.lb_maps.proofs.kept_map.KeptMap.change_globally.Goals as goal

pub returns-then-is_empty-clause-ok : goal.returns-then-is_empty-clause-ok
returns-then-is_empty-clause-ok g c =
    let old = c.args.self.now in
    let none : old.saves ≡ [] = sym (ap (λ k. k.saves) c.self.view_is) ∙ c.is_empty.ensures.0 c.if-is_empty.true in
    let same : old.saves ≡ map (void_save c.args.cell.now) old.saves = none ∙ sym (ap (map (void_save c.args.cell.now)) none) in
    on_ok_weaker c.change_locally.result (λ h blank. h blank ∙ ap (λ l. record { now = put c.args.cell.now c.args.value (held_now blank old.entries); saves = l }) same) c.change_locally.ensures.ok

pub invariant_of-self-2 : goal.invariant_of-self-2
invariant_of-self-2 g c =
    let old = c.self.inside in
    rw (c.void.ensures, c.make_mark.ensures.same) (AllSaved-void c.insert.new.self c.args.cell.now (standing old.saves) (AllSaved-put old.map c.insert.new.self (standing old.saves) c.in_ok-key.key c.args.value c.in_ok-insert.ensures.after c.self.invariant))
