use Rattle.std.proofs.Common.{◌≡◌, ◌↔◌, ◌≤◌, ◌+ℤ◌, IsTrue, length, ℤ, subst, ap, ◌∙◌, to_z, of_z, w32}
use Rattle.std.proofs.lemmas.Int.{to_z-of_z}
use Rattle.lb_model_paper.specs.Dvi.{IsSmall}
use Rattle.lb_dvi.proofs.Drawables.{char_small}
use Rattle.lb_dvi.proofs.drawable.is_small_char.Goals as goal

pub returns-then-is_small_place : goal.returns-then-is_small_place
returns-then-is_small_place c =
    let h : to_z w32 (of_z w32 c.args.h) ≡ c.args.h = to_z-of_z w32 c.args.h c.ranges.h in
    let v : to_z w32 (of_z w32 c.args.v) ≡ c.args.v = to_z-of_z w32 c.args.v c.ranges.v in
    let width : to_z w32 (of_z w32 c.args.width) ≡ c.args.width = to_z-of_z w32 c.args.width c.ranges.width in
    let S : ℤ → Type 0 = λ z. IsSmall z in
    let both = c.is_small_place.ensures.0 c.if-is_small_place.true in
    let E : ℤ → Type 0 = λ z. IsTrue c.is_small_end.result ↔ (IsSmall z × (length c.args.font.now.name ≤ 255)) in
    char_small c.args.h c.args.v c.args.width c.args.font.now c.is_small_end.result (subst S h both.0, subst S v both.1)
    (subst E (ap (λ (z : ℤ). z +ℤ to_z w32 (of_z w32 c.args.width)) h ∙ ap (λ (z : ℤ). c.args.h +ℤ z) width) c.is_small_end.ensures)
