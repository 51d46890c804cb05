use Rattle.std.proofs.Common.{◌≡◌, ◌+◌, ◌++◌, [], ℕ, ◌<◌, ◌≤◌, List, Bool, rules, sym, subst, arith, ap, ◌∙◌, append-nil, length, length-append, true, false, not, get_or, replicate, take, drop}
use Rattle.lb_measure.specs.Measures.{paragraph_in}
use Rattle.lb_model_paper.specs.BestBreaks.{Paragraph, is_stopped}
use Rattle.lb_break.specs.Points.{AreSmall, HasChart, IsFresh, IsOpen, point_at}
use Rattle.lb_break.specs.declared.point.Breakpoint.{Breakpoint}
use Rattle.lb_break.proofs.Charts.{chart-more, more_lists}
use Rattle.lb_break.proofs.Gathered.{small-more, small-skip}
use Rattle.lb_break.proofs.Stops.{fresh-none, open-more, open-skip, whole}
use Rattle.lb_break.proofs.table.visit.Goals as goal

pub returns-then-not-is_break : goal.returns-then-not-is_break
returns-then-not-is_break c =
    let p : Paragraph = paragraph_in c.args.measured.now in
    let points : List Breakpoint = c.args.points.now.items in
    let v = c.requires.visited in
    let never = c.is_break.ensures.line c.if-not-is_break.true in
    let chart = v.chart in
    record {
      chart = subst (λ xs. HasChart p xs (c.args.j + 1)) (append-nil points) (more_lists points [] c.args.j chart.0, chart-more p points [] c.args.j chart.0 c.requires.some chart.1 (fresh-none p points c.args.j never));
      small = small-skip points c.args.j v.small;
      live = open-skip p points c.args.j c.args.begin c.args.live.now.items v.small.below (c.is_break.ensures.stops c.if-not-is_break.true) v.live;
      begin = v.begin;
    }

pub returns : goal.returns
returns c =
    let p : Paragraph = paragraph_in c.args.measured.now in
    let points : List Breakpoint = c.args.points.now.items in
    let marks : List Bool = c.args.live.now.items in
    let v = c.requires.visited in
    let e : c.append.new.self.items ≡ points ++ c.in_ok-fresh.fresh.items = c.in_ok-append.ensures.items in
    let fresh : IsFresh p points c.args.j c.in_ok-fresh.fresh.items = subst (λ ns. IsFresh p ns c.args.j c.in_ok-fresh.fresh.items) c.deref.ensures.value c.in_ok-fresh.ensures.fresh in
    let chart = v.chart in
    let marked : (q : ℕ) → c.args.begin ≤ q → q < length points → get_or c.close.new.live q false ≡ not (is_stopped p (point_at points q).class (point_at points q).at (c.args.j + 1)) =
    subst (λ ns. (q : ℕ) → c.args.begin ≤ q → q < length ns → get_or c.close.new.live q false ≡ not (is_stopped p (point_at ns q).class (point_at ns q).at (c.args.j + 1))) c.deref-3.ensures.value c.close.ensures in
    let long : length c.close.new.live ≡ length points = omega (arith, c.close.auto.live, ap length c.deref_mut.ensures.value, v.live.long) in
    let same_len : c.args.live.now.len ≡ length marks = first_of (omega arith, search rules) in
    let fresh_len : c.in_ok-fresh.fresh.len ≡ length c.in_ok-fresh.fresh.items = first_of (omega arith, search rules) in
    let kept : take c.args.live.now.len (c.close.new.live ++ drop (length c.close.new.live) marks) ≡ c.close.new.live =
    whole c.args.live.now.len c.close.new.live marks same_len (long ∙ sym v.live.long) in
    let seen : c.deref-4.result.now ≡ c.close.new.live = c.deref-4.ensures.value ∙ kept in
    let grown : c.grow.new.live.items ≡ c.close.new.live ++ replicate (length c.in_ok-fresh.fresh.items) true = c.in_ok-grow.ensures ∙ ap (λ w. w ++ replicate c.len.result true) kept ∙ ap (λ n. c.close.new.live ++ replicate n true) (c.len.ensures ∙ fresh_len) in
    let high : c.first_live-begin.result ≤ length points = omega (arith, ap length seen, long, c.first_live-begin.ensures.high) in
    let passed : (q : ℕ) → c.args.begin ≤ q → q < c.first_live-begin.result → get_or c.close.new.live q false ≡ false = subst (λ w. (q : ℕ) → c.args.begin ≤ q → q < c.first_live-begin.result → get_or w q false ≡ false) seen c.first_live-begin.ensures.passed in
    record {
      chart = subst (λ xs. HasChart p xs (c.args.j + 1)) (sym e) (more_lists points c.in_ok-fresh.fresh.items c.args.j chart.0, chart-more p points c.in_ok-fresh.fresh.items c.args.j chart.0 c.requires.some chart.1 fresh);
      small = subst (λ xs. AreSmall xs (c.args.j + 1)) (sym e) (small-more points c.in_ok-fresh.fresh.items c.args.j v.small c.in_ok-fresh.ensures.small c.in_ok-fresh.ensures.at);
      live = subst (λ xs. IsOpen p xs (c.args.j + 1) c.first_live-begin.result c.grow.new.live.items) (sym e)
          (open-more p points c.in_ok-fresh.fresh.items c.args.j c.args.begin c.first_live-begin.result c.close.new.live c.grow.new.live.items marks
          v.live long marked c.first_live-begin.ensures.low high passed c.in_ok-fresh.ensures.at grown);
      begin = omega (arith, ap length e, length-append points c.in_ok-fresh.fresh.items);
    }
