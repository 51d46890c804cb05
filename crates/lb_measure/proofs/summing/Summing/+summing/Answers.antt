use Rattle.std.proofs.Common.{List, [], ◌∷◌, take, sym, ap, ◌∙◌, arith}
use Rattle.std.proofs.lemmas.List.{take_all}
use Rattle.lb_base.specs.declared.node.Discretionary.{Discretionary, out-Discretionary}
use Rattle.lb_base.specs.declared.node.Node.{Node}
use Rattle.lb_model_paper.specs.Breaks.{items_in, sums_of}
use Rattle.lb_model_paper.specs.Nodes.{shown}
use Rattle.lb_model_paper.specs.declared.paragraph.LineSums.{LineSums}
use Rattle.lb_measure.specs.Amounts.{added}
use Rattle.lb_measure.proofs.Counting.{count_of-disc, count_of-other, count_of_disc_is, items_in-below, items_in-drop, items_in-end}
use Rattle.lb_measure.proofs.Shown.{shown_one-disc, shown_one-other}
use Rattle.lb_measure.proofs.Sums.{added-assoc, added-nothing, shown_sums-more, sums_of-nil}
use Rattle.lb_model_paper.proofs.ShownLists.{shown-nil, unbroken_parts-disc, unbroken_parts-other}
use Rattle.lb_measure.proofs.summing.Summing.+summing.Goals as goal

pub add-add_all-requires : goal.add-add_all-requires
add-add_all-requires t c = (omega (arith, c.decreases, ap items_in (c.as_slice.ensures ∙ ap (λ (d : Discretionary). (out-Discretionary d).no_break) c.get.ensures), count_of-disc c.args.node.now c.in-Disc.parts c.in-Disc.is, count_of_disc_is c.in-Disc.parts), (c.requires.near, omega (arith, c.requires.few, ap items_in (c.as_slice.ensures ∙ ap (λ (d : Discretionary). (out-Discretionary d).no_break) c.get.ensures), count_of-disc c.args.node.now c.in-Disc.parts c.in-Disc.is, count_of_disc_is c.in-Disc.parts)))

pub add-returns-in-Disc-clause-sums : goal.add-returns-in-Disc-clause-sums
add-returns-in-Disc-clause-sums t c =
    c.add_all.ensures.sums ∙ ap (λ (ns : List Node). added c.args.self.now.sums (sums_of (shown ns))) (c.as_slice.ensures ∙ ap (λ (d : Discretionary). (out-Discretionary d).no_break) c.get.ensures)
    ∙ ap (λ (ns : List Node). added c.args.self.now.sums (sums_of ns)) (sym (shown_one-disc c.args.node.now (out-Discretionary c.in-Disc.parts).no_break (unbroken_parts-disc c.args.node.now c.in-Disc.parts c.in-Disc.is)))

pub add-returns-in-Disc-clause-count : goal.add-returns-in-Disc-clause-count
add-returns-in-Disc-clause-count t c = omega (arith, c.add_all.ensures.count, ap items_in (c.as_slice.ensures ∙ ap (λ (d : Discretionary). (out-Discretionary d).no_break) c.get.ensures), count_of-disc c.args.node.now c.in-Disc.parts c.in-Disc.is, count_of_disc_is c.in-Disc.parts)

pub add-returns-in_default : goal.add-returns-in_default
add-returns-in_default t c = record {
  sums = c.add_one.ensures.sums ∙ ap (λ (ns : List Node). added c.args.self.now.sums (sums_of ns)) (sym (shown_one-other c.args.node.now (unbroken_parts-other c.args.node.now c.in_default.not-Disc)));
  count = omega (arith, c.add_one.ensures.count, count_of-other c.args.node.now c.in_default.not-Disc);
  near = c.add_one.ensures.near;
}

pub add_all-loop-node-init : goal.add_all-loop-node-init
add_all-loop-node-init t c = record {
  sums = sym (ap (λ (s : LineSums). added c.args.self.now.sums s) (ap sums_of shown-nil ∙ sums_of-nil) ∙ added-nothing c.args.self.now.sums);
  count = omega arith;
  near = c.requires.near;
}

pub add_all-add-requires : goal.add_all-add-requires
add_all-add-requires t c = (omega (arith, c.decreases, items_in-drop c.args.nodes.now c.loop-node.node-index c.node-item.result c.loop-node-test.true c.node-item.is, items_in-below c.args.nodes.now c.loop-node.node-index), (c.loop-node.invariant.near, omega (arith, c.requires.few, c.loop-node.invariant.count, items_in-drop c.args.nodes.now c.loop-node.node-index c.node-item.result c.loop-node-test.true c.node-item.is)))

pub add_all-loop-node-preserved : goal.add_all-loop-node-preserved
add_all-loop-node-preserved t c = record {
  sums = c.add.ensures.sums ∙ ap (λ (s : LineSums). added s (sums_of (shown (c.node-item.result ∷ [])))) c.loop-node.invariant.sums
      ∙ added-assoc c.args.self.now.sums (sums_of (shown (take c.loop-node.node-index c.args.nodes.now))) (sums_of (shown (c.node-item.result ∷ [])))
      ∙ ap (λ (s : LineSums). added c.args.self.now.sums s) (sym (shown_sums-more c.args.nodes.now c.loop-node.node-index c.node-item.result c.loop-node-test.true c.node-item.is));
  count = omega (arith, c.add.ensures.count, c.loop-node.invariant.count, items_in-drop c.args.nodes.now c.loop-node.node-index c.node-item.result c.loop-node-test.true c.node-item.is);
  near = c.add.ensures.near;
}

pub add_all-returns : goal.add_all-returns
add_all-returns t c = record {
  sums = c.loop-node.invariant.sums ∙ ap (λ (ns : List Node). added c.args.self.now.sums (sums_of (shown ns))) (take_all c.loop-node.node-index c.args.nodes.now c.loop-node-test.false);
  count = omega (arith, c.loop-node.invariant.count, items_in-end c.args.nodes.now c.loop-node.node-index c.loop-node-test.false);
  near = c.loop-node.invariant.near;
}
