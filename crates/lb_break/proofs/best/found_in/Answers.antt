use Rattle.std.proofs.Common.{◌≡◌, ◌+◌, ℕ, List, Some, None, sym, subst, ap, ◌∙◌, reverse, length}
use Rattle.lb_measure.specs.Measures.{paragraph_in}
use Rattle.lb_model_paper.specs.BestBreaks.{Paragraph, best_of, ends_of}
use Rattle.lb_model_paper.specs.declared.paragraph.BreakEnd.{BreakEnd}
use Rattle.lb_break.specs.Points.{EndBelow, IsEnd, IsLinked, IsTrail}
use Rattle.lb_break.proofs.Charts.{chart-best, chart-none}
use Rattle.lb_break.proofs.Found.{found-none, found-some}
use Rattle.lb_break.proofs.Least.{best-none, best-some}
use Rattle.lb_break.proofs.Trails.{chart-linked, chart-trail}
use Rattle.lb_break.proofs.best.found_in.Goals as goal

pub returns-in_default : goal.returns-in_default
returns-in_default c =
    let p : Paragraph = paragraph_in c.args.measured.now in
    let chart = c.in_ok-points.ensures.chart in
    found-none c.args.pass p (best-none p (chart-none p c.in_ok-points.points.items chart.0 chart.1 (subst (λ ns. EndBelow p ns (length ns) None) c.deref.ensures.value c.in_default.ensures)))

pub trail-requires-clause-linked : goal.trail-requires-clause-linked
trail-requires-clause-linked c =
    let p : Paragraph = paragraph_in c.args.measured.now in
    let chart = c.in_ok-points.ensures.chart in
    subst (λ ns. IsLinked ns) (sym c.deref-2.ensures.value) (chart-linked p c.in_ok-points.points.items (p.count + 1) chart.0 chart.1)

pub returns : goal.returns
returns c =
    let p : Paragraph = paragraph_in c.args.measured.now in
    let chart = c.in_ok-points.ensures.chart in
    let x : ℕ → List ℕ = chart.0 in
    let end : IsEnd p c.in_ok-points.points.items (length c.in_ok-points.points.items) c.in-Some.index = subst (λ ns. IsEnd p ns (length ns) c.in-Some.index) c.deref.ensures.value c.in-Some.ensures in
    let T : ℕ → List BreakEnd = λ q. ends_of p (x q) in
    let is : c.in_ok-ends.ends.items ≡ ends_of p (x c.in-Some.index) = c.in_ok-ends.ensures T (subst (λ ns. IsTrail ns T) (sym c.deref-2.ensures.value) (chart-trail p c.in_ok-points.points.items (p.count + 1) x chart.1)) in
    let best : best_of p ≡ Some (x c.in-Some.index) = best-some p (x c.in-Some.index) (chart-best p c.in_ok-points.points.items x c.in-Some.index chart.1 end) in
    found-some c.args.pass p (x c.in-Some.index) _ best (c.from_vec.ensures ∙ c.reverse.ensures.items ∙ ap reverse is)
