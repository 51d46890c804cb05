use Rattle.std.proofs.Common.{ℤ, ◌+ℤ◌, w32, FitsSigned, ap, ◌∙◌, rules}
use Rattle.std.proofs.lemmas.Int.{to_z-of_z}
use Rattle.lb_model_paper.specs.Breaks.{badness_demerits, line_demerits, penalty_demerits}
use Rattle.lb_measure.proofs.Verdicts.{held_three}
use Rattle.lb_measure.proofs.judging.line_demerits.Goals as goal

pub returns-clause-value : goal.returns-clause-value
unfolding line_demerits
returns-clause-value c =
    let line : FitsSigned w32 c.args.rules.now.line_penalty = search rules in
    let penalty : FitsSigned w32 c.args.penalty = search rules in
    let b = c.badness_demerits-badness_demerits in
    let B : ℤ = badness_demerits c.args.rules.now.line_penalty c.args.badness in
    held_three b.result c.penalty_demerits.result c.hyphen_demerits.result b.ensures.low b.ensures.high c.penalty_demerits.ensures.low c.penalty_demerits.ensures.high c.hyphen_demerits.ensures.low c.hyphen_demerits.ensures.high
    ∙ ap (λ (z : ℤ). (z +ℤ c.penalty_demerits.result) +ℤ c.hyphen_demerits.result) (b.ensures.value ∙ ap (λ (z : ℤ). badness_demerits z c.args.badness) (to_z-of_z w32 c.args.rules.now.line_penalty line))
    ∙ ap (λ (z : ℤ). (B +ℤ z) +ℤ c.hyphen_demerits.result) (c.penalty_demerits.ensures.value ∙ ap penalty_demerits (to_z-of_z w32 c.args.penalty penalty))
    ∙ ap (λ (z : ℤ). (B +ℤ penalty_demerits c.args.penalty) +ℤ z) c.hyphen_demerits.ensures.value
