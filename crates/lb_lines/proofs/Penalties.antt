-- The penalty behind a line.
use Rattle.std.proofs.Common.{◌≡◌, Bool, if◌then◌else◌, ℤ, pos, ◌+ℤ◌, ap, ◌∙◌}
use Rattle.lb_model_paper.specs.Lines.{held_penalty, penalty_behind}
use Rattle.lb_model_paper.specs.declared.paragraph.BreakRules.{BreakRules}

pub penalty_behind_is : (rules : BreakRules) (first last broken : Bool) (i c w b wb cwb sum held : ℤ) → i ≡ rules.interline_penalty → c ≡ (if first then rules.club_penalty else pos 0) → w ≡ (if last then rules.widow_penalty else pos 0) → b ≡ (if broken then rules.broken_penalty else pos 0)
    → wb ≡ w +ℤ b → cwb ≡ c +ℤ wb → sum ≡ i +ℤ cwb → held ≡ held_penalty sum → held ≡ penalty_behind rules first last broken
penalty_behind_is rules first last broken i c w b wb cwb sum held i_is c_is w_is b_is wb_is cwb_is sum_is held_is =
    let W : ℤ = if last then rules.widow_penalty else pos 0 in
    let B : ℤ = if broken then rules.broken_penalty else pos 0 in
    let wb_all : wb ≡ (if last then rules.widow_penalty else pos 0) +ℤ (if broken then rules.broken_penalty else pos 0) = wb_is ∙ ap (λ (z : ℤ). z +ℤ b) w_is ∙ ap (λ (z : ℤ). W +ℤ z) b_is in
    let cwb_all = cwb_is ∙ ap (λ (z : ℤ). z +ℤ wb) c_is ∙ ap (λ (z : ℤ). (if first then rules.club_penalty else pos 0) +ℤ z) wb_all in
    held_is ∙ ap held_penalty (sum_is ∙ ap (λ (z : ℤ). z +ℤ cwb) i_is ∙ ap (λ (z : ℤ). rules.interline_penalty +ℤ z) cwb_all)
