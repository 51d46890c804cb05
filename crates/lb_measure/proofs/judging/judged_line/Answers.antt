use Rattle.std.proofs.Common.{◌≡◌, Bool, Option, Some, None, ℤ, pos, neg_ℤ, int_le, to_z, of_z, w32, w64, FitsSigned, refl, sym, ap, ◌∙◌, arith, rules}
use Rattle.std.proofs.lemmas.Int.{ints, to_z-of_z}
use Rattle.lb_model_paper.specs.Breaks.{badness_by, fitness_by, is_overfull_by, judged_as, line_demerits, verdict_by}
use Rattle.lb_model_paper.specs.declared.paragraph.Judged.{Judged}
use Rattle.lb_measure.specs.Amounts.{IsNear}
use Rattle.lb_measure.proofs.Sums.{IsNear-more, held}
use Rattle.lb_measure.proofs.Verdicts.{judged_line_is}
use Rattle.lb_measure.proofs.judging.judged_line.Goals as goal

pub returns-in-Some-clause-value : goal.returns-in-Some-clause-value
returns-in-Some-clause-value c =
    let tolerance : FitsSigned w32 c.args.tolerance = search rules in
    let penalty : FitsSigned w32 c.args.penalty = search rules in
    let shrink : FitsSigned w64 c.args.sums.now.shrink = search rules in
    let near : IsNear 2097152 c.excess_in-excess.result = IsNear-more 1048577 2097152 c.excess_in-excess.result (omega arith) c.excess_in-excess.ensures.near in
    let excess : to_z w64 (of_z w64 c.excess_in-excess.result) ≡ c.excess_in-excess.result = held c.excess_in-excess.result near in
    let small : IsNear 2097152 c.line_demerits.result = record { low = omega (arith, ints, c.line_demerits.ensures.low); high = omega (arith, ints, c.line_demerits.ensures.high) } in
    let J : ℤ → Option Judged = λ z. Some (judged_as c.in-Some.is_bad z c.fitness_by.result) in
    let V : ℤ → ℤ → Option Bool = λ t q. verdict_by (record { tolerance = t; keeps_bad = c.args.keeps_bad }) c.is_overfull-is_overfull.result (int_le q (neg_ℤ (pos 10000))) c.badness_by-badness.result in
    ap J (held c.line_demerits.result small)
    ∙ judged_line_is c.args.shape.now (record { tolerance = c.args.tolerance; keeps_bad = c.args.keeps_bad }) c.args.penalty c.args.ends.from_disc c.args.ends.to_disc c.args.ends.is_last c.args.sums.now
    c.excess_in-excess.result c.badness_by-badness.result c.is_overfull-is_overfull.result c.line_demerits.result c.fitness_by.result (Some c.in-Some.is_bad)
    c.excess_in-excess.ensures.value
    (c.badness_by-badness.ensures.value ∙ ap (λ (e : ℤ). badness_by e c.args.sums.now) excess)
    (c.is_overfull-is_overfull.ensures ∙ ap (λ (e : ℤ). is_overfull_by e (to_z w64 (of_z w64 c.args.sums.now.shrink))) excess ∙ ap (λ (s : ℤ). is_overfull_by c.excess_in-excess.result s) (to_z-of_z w64 c.args.sums.now.shrink shrink))
    (sym c.in-Some.is ∙ c.verdict.ensures ∙ ap (λ (t : ℤ). V t (to_z w32 (of_z w32 c.args.penalty))) (to_z-of_z w32 c.args.tolerance tolerance) ∙ ap (λ (q : ℤ). V c.args.tolerance q) (to_z-of_z w32 c.args.penalty penalty))
    (c.line_demerits.ensures.value ∙ ap (λ (q : ℤ). line_demerits c.args.shape.now.rules c.badness_by-badness.result q c.args.ends.from_disc c.args.ends.to_disc c.args.ends.is_last) (to_z-of_z w32 c.args.penalty penalty))
    (c.fitness_by.ensures ∙ ap (λ (e : ℤ). fitness_by e c.badness_by-badness.result) excess)

pub returns-in-None-clause-value : goal.returns-in-None-clause-value
returns-in-None-clause-value c =
    let tolerance : FitsSigned w32 c.args.tolerance = search rules in
    let penalty : FitsSigned w32 c.args.penalty = search rules in
    let shrink : FitsSigned w64 c.args.sums.now.shrink = search rules in
    let near : IsNear 2097152 c.excess_in-excess.result = IsNear-more 1048577 2097152 c.excess_in-excess.result (omega arith) c.excess_in-excess.ensures.near in
    let excess : to_z w64 (of_z w64 c.excess_in-excess.result) ≡ c.excess_in-excess.result = held c.excess_in-excess.result near in
    let V : ℤ → ℤ → Option Bool = λ t q. verdict_by (record { tolerance = t; keeps_bad = c.args.keeps_bad }) c.is_overfull-is_overfull.result (int_le q (neg_ℤ (pos 10000))) c.badness_by-badness.result in
    judged_line_is c.args.shape.now (record { tolerance = c.args.tolerance; keeps_bad = c.args.keeps_bad }) c.args.penalty c.args.ends.from_disc c.args.ends.to_disc c.args.ends.is_last c.args.sums.now
    c.excess_in-excess.result c.badness_by-badness.result c.is_overfull-is_overfull.result (line_demerits c.args.shape.now.rules c.badness_by-badness.result c.args.penalty c.args.ends.from_disc c.args.ends.to_disc c.args.ends.is_last) (fitness_by c.excess_in-excess.result c.badness_by-badness.result) None
    c.excess_in-excess.ensures.value
    (c.badness_by-badness.ensures.value ∙ ap (λ (e : ℤ). badness_by e c.args.sums.now) excess)
    (c.is_overfull-is_overfull.ensures ∙ ap (λ (e : ℤ). is_overfull_by e (to_z w64 (of_z w64 c.args.sums.now.shrink))) excess ∙ ap (λ (s : ℤ). is_overfull_by c.excess_in-excess.result s) (to_z-of_z w64 c.args.sums.now.shrink shrink))
    (sym c.in-None.is ∙ c.verdict.ensures ∙ ap (λ (t : ℤ). V t (to_z w32 (of_z w32 c.args.penalty))) (to_z-of_z w32 c.args.tolerance tolerance) ∙ ap (λ (q : ℤ). V c.args.tolerance q) (to_z-of_z w32 c.args.penalty penalty))
    refl refl
