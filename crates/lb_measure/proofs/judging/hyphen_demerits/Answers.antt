use Rattle.std.proofs.Common.{◌&&◌, ℤ, pos, ◌+ℤ◌, if◌then◌else◌, w32, FitsSigned, ap, ◌∙◌, rules}
use Rattle.lb_measure.proofs.Verdicts.{held_applied, held_bounded_sum}
use Rattle.lb_measure.proofs.judging.hyphen_demerits.Goals as goal

pub returns-clause-value : goal.returns-clause-value
returns-clause-value c =
    let double : FitsSigned w32 c.args.rules.now.double_hyphen_demerits = search rules in
    let last : FitsSigned w32 c.args.rules.now.final_hyphen_demerits = search rules in
    held_bounded_sum c.demerits_where.result c.demerits_where-2.result c.demerits_where.ensures.low c.demerits_where.ensures.high c.demerits_where-2.ensures.low c.demerits_where-2.ensures.high
    ∙ ap (λ (z : ℤ). z +ℤ c.demerits_where-2.result) (held_applied c.demerits_where.result c.args.rules.now.double_hyphen_demerits c.both-double.result (c.args.ends.from_disc && c.args.ends.to_disc) double c.both-double.ensures c.demerits_where.ensures.value)
    ∙ ap (λ (z : ℤ). (if c.args.ends.from_disc && c.args.ends.to_disc then c.args.rules.now.double_hyphen_demerits else pos 0) +ℤ z) (held_applied c.demerits_where-2.result c.args.rules.now.final_hyphen_demerits c.both-last.result (c.args.ends.from_disc && c.args.ends.is_last) last c.both-last.ensures c.demerits_where-2.ensures.value)
