use Rattle.std.proofs.Common.{Bool, nat_eq, length, Option, ℤ, pos, ◌<ℤ◌, to_z, of_z, w32, FitsSigned, sym, ap, ◌∙◌, subst, arith, rules}
use Rattle.std.proofs.lemmas.Int.{to_z-of_z}
use Rattle.lb_model_paper.specs.Breaks.{is_disc_at, judged_line}
use Rattle.lb_model_paper.specs.declared.paragraph.Judged.{Judged}
use Rattle.lb_model_paper.specs.declared.paragraph.LineSums.{LineSums}
use Rattle.lb_measure.specs.Measures.{pass_of}
use Rattle.lb_measure.proofs.LineSums.{line_of_paragraph, no_break, penalty_small, place_here, some_break}
use Rattle.lb_measure.proofs.measured.Measured.line.Goals as goal

pub returns-in_err-penalty-clause-value : goal.returns-in_err-penalty-clause-value
returns-in_err-penalty-clause-value c = λ k.
    let m = c.args.self.now in
    let to = place_here m c.args.j c.index.result.now c.requires.measured c.requires.j c.index.ensures in
    c.from_residual.ensures ∙ no_break m.shape (pass_of m) m.list.now c.args.i c.args.j (sym to.penalty ∙ c.in_err-penalty.was) ∙ line_of_paragraph m.shape (pass_of m) m.list.now k c.args.i c.args.j

pub judged_line-requires-clause-penalty : goal.judged_line-requires-clause-penalty
judged_line-requires-clause-penalty c =
    let m = c.args.self.now in
    let fits : FitsSigned w32 c.in_ok-penalty.penalty = search rules in
    let to = place_here m c.args.j c.index.result.now c.requires.measured c.requires.j c.index.ensures in
    subst (λ (z : ℤ). z <ℤ pos 10000) (sym (to_z-of_z w32 c.in_ok-penalty.penalty fits)) (penalty_small m.shape.rules m.list.now c.args.j c.in_ok-penalty.penalty (sym to.penalty ∙ c.in_ok-penalty.was))

pub returns-clause-value : goal.returns-clause-value
returns-clause-value c = λ k.
    let m = c.args.self.now in
    let fits : FitsSigned w32 c.in_ok-penalty.penalty = search rules in
    let tolerance : FitsSigned w32 m.tolerance = search rules in
    let from = place_here m c.args.i c.index-2.result.now c.requires.measured (omega (arith, c.requires.i, c.requires.j)) c.index-2.ensures in
    let to = place_here m c.args.j c.index.result.now c.requires.measured c.requires.j c.index.ensures in
    let there = place_here m c.args.j c.index-3.result.now c.requires.measured c.requires.j c.index-3.ensures in
    let J : ℤ → ℤ → Bool → Bool → LineSums → Option Judged = λ t p a b s. judged_line m.shape (record { tolerance = t; keeps_bad = m.keeps_bad }) p a b (nat_eq c.args.j (length m.list.now)) s in
    c.judged_line.ensures.value
    ∙ ap (λ (t : ℤ). J t (to_z w32 (of_z w32 c.in_ok-penalty.penalty)) c.index-2.result.now.is_disc c.index-3.result.now.is_disc c.sums-sums.result) (to_z-of_z w32 m.tolerance tolerance)
    ∙ ap (λ (p : ℤ). J m.tolerance p c.index-2.result.now.is_disc c.index-3.result.now.is_disc c.sums-sums.result) (to_z-of_z w32 c.in_ok-penalty.penalty fits)
    ∙ ap (λ (a : Bool). J m.tolerance c.in_ok-penalty.penalty a c.index-3.result.now.is_disc c.sums-sums.result) from.is_disc
    ∙ ap (λ (b : Bool). J m.tolerance c.in_ok-penalty.penalty (is_disc_at m.list.now c.args.i) b c.sums-sums.result) there.is_disc
    ∙ ap (λ (s : LineSums). J m.tolerance c.in_ok-penalty.penalty (is_disc_at m.list.now c.args.i) (is_disc_at m.list.now c.args.j) s) c.sums-sums.ensures.value
    ∙ some_break m.shape (pass_of m) m.list.now c.args.i c.args.j c.in_ok-penalty.penalty (sym to.penalty ∙ c.in_ok-penalty.was)
    ∙ line_of_paragraph m.shape (pass_of m) m.list.now k c.args.i c.args.j
