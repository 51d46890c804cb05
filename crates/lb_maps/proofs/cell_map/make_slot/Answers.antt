use Rattle.std.proofs.Common.{◌≤◌, ◌∙◌, ◌++◌, ◌∷◌, [], List, None, length, subst, ap, sym, arith}
use Rattle.std.proofs.lemmas.List.{length-append}
use Rattle.lb_maps.specs.Slots.{ArePlaced, filled, in_slot}
use Rattle.lb_maps.proofs.Tabled.{filled-push, placed-push, in_slot-push}
use Rattle.lb_maps.proofs.cell_map.make_slot.Goals as goal

longer : {X : Type 0} (xs : List X) (x : X) (n : List X) → length xs ≤ length n → length xs ≤ length (n ++ x ∷ [])
longer xs x n h = omega (arith, h, length-append n (x ∷ []))

pub loop-slots-preserved : goal.loop-slots-preserved
loop-slots-preserved g c =
    let before = c.loop-slots.slots.items in
    let start = c.args.slots.now.items in
    let told = c.loop-slots.invariant in
    let pushed = c.in_ok-push.ensures.items in record {
      same = ap filled pushed ∙ filled-push before ∙ told.same;
      placed = λ a. subst (ArePlaced 0) (sym pushed) (placed-push 0 before (told.placed a));
      held = ap in_slot pushed ∙ (λ i n. in_slot-push before n i) ∙ told.held;
      grows = subst (λ l. length start ≤ length l) (sym pushed) (longer start None before told.grows);
    }

pub returns-in_err-push-clause-held : goal.returns-in_err-push-clause-held
returns-in_err-push-clause-held g c = ap in_slot c.in_err-push.ensures.items ∙ c.loop-slots.invariant.held
