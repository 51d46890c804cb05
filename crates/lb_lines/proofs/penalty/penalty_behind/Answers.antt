use Rattle.std.proofs.Common.{◌≡◌, Bool, ℤ, pos, ◌+ℤ◌, if◌then◌else◌, to_z, of_z, w32, w64, FitsSigned, ap, ◌∙◌, rules}
use Rattle.std.proofs.lemmas.Int.{to_z-of_z}
use Rattle.lb_model_paper.specs.Lines.{held_penalty}
use Rattle.lb_lines.proofs.Penalties.{penalty_behind_is}
use Rattle.lb_lines.proofs.penalty.penalty_behind.Goals as goal

applied : (x z : ℤ) (b : Bool) → FitsSigned w32 z → x ≡ (if b then to_z w32 (of_z w32 z) else pos 0) → x ≡ (if b then z else pos 0)
applied x z b fits is = is ∙ ap (λ (y : ℤ). if b then y else pos 0) (to_z-of_z w32 z fits)

summed : (x a b : ℤ) → FitsSigned w64 a → FitsSigned w64 b → x ≡ to_z w64 (of_z w64 a) +ℤ to_z w64 (of_z w64 b) → x ≡ a +ℤ b
summed x a b fits other is = is ∙ ap (λ (z : ℤ). z +ℤ to_z w64 (of_z w64 b)) (to_z-of_z w64 a fits) ∙ ap (λ (z : ℤ). a +ℤ z) (to_z-of_z w64 b other)

pub returns : goal.returns
returns c =
    let r = c.args.rules.now in
    let club : FitsSigned w32 r.club_penalty = search rules in
    let widow : FitsSigned w32 r.widow_penalty = search rules in
    let broken : FitsSigned w32 r.broken_penalty = search rules in
    let interline : FitsSigned w32 r.interline_penalty = search rules in
    let result : FitsSigned w32 c.held.result = search rules in
    let f1 : FitsSigned w64 c.added_where-club.result = search rules in
    let f2 : FitsSigned w64 c.added_where-widow.result = search rules in
    let f3 : FitsSigned w64 c.added_where-broken.result = search rules in
    let f4 : FitsSigned w64 c.added_where-interline.result = search rules in
    let f5 : FitsSigned w64 c.plus.result = search rules in
    let f6 : FitsSigned w64 c.plus-2.result = search rules in
    let f7 : FitsSigned w64 c.plus-3.result = search rules in
    to_z-of_z w32 c.held.result result
    ∙ penalty_behind_is r c.args.is_first c.args.is_next_last c.args.is_broken c.added_where-interline.result c.added_where-club.result c.added_where-widow.result c.added_where-broken.result c.plus.result c.plus-2.result c.plus-3.result c.held.result
    (c.added_where-interline.ensures.value ∙ to_z-of_z w32 r.interline_penalty interline)
    (applied c.added_where-club.result r.club_penalty c.args.is_first club c.added_where-club.ensures.value)
    (applied c.added_where-widow.result r.widow_penalty c.args.is_next_last widow c.added_where-widow.ensures.value)
    (applied c.added_where-broken.result r.broken_penalty c.args.is_broken broken c.added_where-broken.ensures.value)
    (summed c.plus.result c.added_where-widow.result c.added_where-broken.result f2 f3 c.plus.ensures)
    (summed c.plus-2.result c.added_where-club.result c.plus.result f1 f5 c.plus-2.ensures)
    (summed c.plus-3.result c.added_where-interline.result c.plus-2.result f4 f6 c.plus-3.ensures)
    (c.held.ensures ∙ ap held_penalty (to_z-of_z w64 c.plus-3.result f7))
