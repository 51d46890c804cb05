-- The ends of the lines to each point.
use Rattle.std.proofs.Common.{◌≡◌, ℕ, ◌+◌, ◌-◌, ◌<◌, Bool, true, false, cond, nat_lt, List, ◌∷◌, length, Option, Some, None, sym, ◌∙◌, ap, subst, arith}
use Rattle.std.proofs.lemmas.Bool.Decides.{nat_tests}
use Rattle.lb_model_paper.specs.BestBreaks.{Admitted, Paragraph, bad_in, bad_of, ends_of, is_bad_in, judge_of, last_of, line_of}
use Rattle.lb_model_paper.specs.declared.paragraph.BreakEnd.{BreakEnd}
use Rattle.lb_model_paper.specs.declared.paragraph.Judged.{Judged}
use Rattle.lb_break.specs.Points.{IsChart, IsLinked, IsTrail, point_at}
use Rattle.lb_break.specs.declared.point.Breakpoint.{Breakpoint}

marked : (b : Bool) (n : ℕ) → b ≡ nat_lt n (cond b 1 0 + n)
marked true n = let h : n < 1 + n = omega arith in grind (arith, nat_tests)
marked false n = grind (arith, nat_tests)

-- a line is bad where it adds to the number of bad lines
is_bad-more : (o : Option Judged) (n : ℕ) → is_bad_in o ≡ nat_lt n (bad_in o + n)
is_bad-more None n = grind (arith, nat_tests)
is_bad-more (Some line) n = marked line.is_bad n

last_end : (p : Paragraph) (j : ℕ) (rest : List ℕ) → is_bad_in (judge_of p (line_of p rest) (last_of rest) j) ≡ nat_lt (bad_of p rest) (bad_of p (j ∷ rest))
last_end p j rest = is_bad-more (judge_of p (line_of p rest) (last_of rest) j) (bad_of p rest)

pub chart-trail : (p : Paragraph) (points : List Breakpoint) (j : ℕ) (x : ℕ → List ℕ) → IsChart p points j x → IsTrail points (λ q. ends_of p (x q))
chart-trail p points j x chart = record {
  first = ap (ends_of p) chart.first;
  made = λ q some within.
      let m = chart.made q some within in
      let from : ℕ = (point_at points q).from in
      let inside : from < length points = omega (arith, m.0) in
      let E : Bool → List BreakEnd = λ b. record { item = (point_at points q).at - 1; is_bad = b } ∷ ends_of p (x from) in
      let here : bad_of p ((point_at points q).at ∷ x from) ≡ (point_at points q).bad = ap (bad_of p) (sym m.1) ∙ chart.bad q within in
      ap (ends_of p) m.1 ∙ ap E (last_end p (point_at points q).at (x from) ∙ ap (λ n. nat_lt n (bad_of p ((point_at points q).at ∷ x from))) (chart.bad from inside) ∙ ap (λ n. nat_lt (point_at points from).bad n) here);
}

some-at : (p : Paragraph) (i : ℕ) (rest : List ℕ) → Admitted p (i ∷ rest) → 0 < i
some-at p i rest a = omega (arith, a.0)

pub chart-linked : (p : Paragraph) (points : List Breakpoint) (j : ℕ) (x : ℕ → List ℕ) → IsChart p points j x → IsLinked points
chart-linked p points j x chart q some within =
    let m = chart.made q some within in
    (m.0, some-at p (point_at points q).at (x (point_at points q).from) (subst (Admitted p) m.1 (chart.best q within).admitted))
