use Rattle.std.proofs.Common.{◌+◌, false, ap, sym, ◌∙◌, arith, subst}
use Rattle.lb_base.specs.declared.node.Discretionary.{Discretionary, out-Discretionary}
use Rattle.lb_model_paper.specs.Breaks.{items_in, sums_of}
use Rattle.lb_model_paper.specs.Nodes.{shown}
use Rattle.lb_model_paper.specs.declared.paragraph.LineSums.{LineSums}
use Rattle.lb_measure.specs.Amounts.{nothing}
use Rattle.lb_measure.specs.Measures.{IsPlace}
use Rattle.lb_measure.proofs.Counting.{count_of-disc, count_of_disc_is, items_in-below, items_in-drop}
use Rattle.lb_measure.proofs.Measures.{place-disc, place-other}
use Rattle.lb_measure.proofs.places.place_of.Goals as goal

pub disc_place-requires-clause-pre : goal.disc_place-requires-clause-pre
disc_place-requires-clause-pre c = omega (
  arith,
  c.requires.few,
  ap (λ (d : Discretionary). items_in (out-Discretionary d).pre_break) c.get.ensures,
  count_of_disc_is c.in-Disc.parts,
  count_of-disc c.index-list-k.result c.in-Disc.parts c.in-Disc.is,
  items_in-drop c.args.list.now c.args.k c.index-list-k.result c.requires.within c.index-list-k.is,
  items_in-below c.args.list.now c.args.k,
)

pub disc_place-requires-clause-post : goal.disc_place-requires-clause-post
disc_place-requires-clause-post c = omega (
  arith,
  c.requires.few,
  ap (λ (d : Discretionary). items_in (out-Discretionary d).post_break) c.get.ensures,
  count_of_disc_is c.in-Disc.parts,
  count_of-disc c.index-list-k.result c.in-Disc.parts c.in-Disc.is,
  items_in-drop c.args.list.now c.args.k c.index-list-k.result c.requires.within c.index-list-k.is,
  items_in-below c.args.list.now c.args.k,
)

pub returns-in-Disc : goal.returns-in-Disc
returns-in-Disc c =
    let e = c.disc_place.ensures in
    place-disc c.args.rules.now c.args.list.now c.args.k c.index-list-k.result c.in-Disc.parts c.args.sums.now c.penalty_at-penalty.result c.disc_place.result c.requires.within c.index-list-k.is c.in-Disc.is c.requires.sums c.requires.near c.penalty_at-penalty.ensures
    (record {
      sums = e.sums;
      pre = e.pre ∙ ap (λ (d : Discretionary). sums_of (shown (out-Discretionary d).pre_break)) c.get.ensures;
      post = e.post ∙ ap (λ (d : Discretionary). sums_of (shown (out-Discretionary d).post_break)) c.get.ensures;
      penalty = e.penalty;
      is_disc = e.disc;
      near_pre = e.near_pre;
      near_post = e.near_post;
    })

pub returns-in_default : goal.returns-in_default
returns-in_default c =
    let P = λ (a b : LineSums). IsPlace c.args.rules.now c.args.list.now (c.args.k + 1) (record { sums = c.args.sums.now; pre = a; post = b; penalty = c.penalty_at-penalty.result; is_disc = false }) in
    subst (λ (a : LineSums). P a c.nothing-in_default.result) (sym c.nothing.ensures.value) (subst (λ (b : LineSums). P nothing b) (sym c.nothing-in_default.ensures.value)
    (place-other c.args.rules.now c.args.list.now c.args.k c.index-list-k.result c.args.sums.now c.penalty_at-penalty.result c.requires.within c.index-list-k.is c.in_default.not-Disc c.requires.sums c.requires.near c.penalty_at-penalty.ensures))
