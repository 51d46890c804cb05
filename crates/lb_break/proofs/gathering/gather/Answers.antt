use Rattle.std.proofs.Common.{◌≡◌, ◌≤◌, sym, subst, rules, arith, length}
use Rattle.std.proofs.lemmas.List.Sorted.{All-permutation, Contains-permutation, IsNonDecreasingBy-from_sort_by_key}
use Rattle.lb_measure.specs.Measures.{paragraph_in}
use Rattle.lb_break.specs.Points.{IsWinner, IsSmall}
use Rattle.lb_break.specs.Progress.{IsGathered}
use Rattle.lb_break.proofs.Gathered.{gathered-none}
use Rattle.lb_break.proofs.Stops.{extended-closed, gathered-winners, gathered-small, gathered-at, gathered-complete}
use Rattle.lb_break.proofs.gathering.gather.Goals as goal

pub loop-index-init : goal.loop-index-init
loop-index-init c = record {
  within = c.requires.begin;
  from = omega arith;
  gathered = subst (IsGathered (paragraph_in c.args.measured.now) c.args.points.now c.args.j c.args.begin) (sym c.new-fresh.ensures.items)
      (gathered-none (paragraph_in c.args.measured.now) c.args.points.now c.args.j c.args.begin (λ q h. sym (extended-closed (paragraph_in c.args.measured.now) c.args.points.now c.args.j q (c.requires.live.closed q h (let le : c.args.begin ≤ length c.args.points.now = c.requires.begin in omega arith)))));
}

pub returns-clause-fresh : goal.returns-clause-fresh
returns-clause-fresh c =
    let whole : c.loop-index.index ≡ length c.args.points.now = omega arith in
    let g : IsGathered (paragraph_in c.args.measured.now) c.args.points.now c.args.j (length c.args.points.now) c.loop-index.fresh.items = subst (λ n. IsGathered (paragraph_in c.args.measured.now) c.args.points.now c.args.j n c.loop-index.fresh.items) whole c.loop-index.invariant.gathered in
    record {
      winners = All-permutation (IsWinner (paragraph_in c.args.measured.now) c.args.points.now c.args.j) _ _ c.in_ok-sort_by_key.ensures.permutation (gathered-winners (paragraph_in c.args.measured.now) c.args.points.now c.args.j c.loop-index.fresh.items g);
      complete = λ q other h e.
          let m = gathered-complete (paragraph_in c.args.measured.now) c.args.points.now c.args.j c.loop-index.fresh.items g q other h e in
          (m.0, Contains-permutation _ _ m.0 c.in_ok-sort_by_key.ensures.permutation m.1, m.2, m.3);
      order = IsNonDecreasingBy-from_sort_by_key (λ n. n.from) _ c.in_ok-sort_by_key.ensures.sorted (λ a r q k. search rules);
    }

pub returns-clause-small : goal.returns-clause-small
returns-clause-small c = All-permutation IsSmall _ _ c.in_ok-sort_by_key.ensures.permutation (gathered-small (paragraph_in c.args.measured.now) c.args.points.now c.args.j c.loop-index.index c.loop-index.fresh.items c.loop-index.invariant.gathered)

pub returns-clause-at : goal.returns-clause-at
returns-clause-at c = All-permutation (λ n. n.at ≡ c.args.j) _ _ c.in_ok-sort_by_key.ensures.permutation (gathered-at (paragraph_in c.args.measured.now) c.args.points.now c.args.j c.loop-index.index c.loop-index.fresh.items c.loop-index.invariant.gathered)
