use Rattle.std.proofs.Common.{◌≡◌, ◌+◌, List, [], ◌∷◌, ◌++◌, length, sym, ap, ◌∙◌, arith, length-append}
use Rattle.lb_model_paper.specs.Breaks.{sums_of}
use Rattle.lb_model_paper.specs.Nodes.{shown}
use Rattle.lb_model_paper.specs.declared.paragraph.LineSums.{LineSums}
use Rattle.lb_measure.specs.Amounts.{added}
use Rattle.lb_measure.specs.Measures.{blank}
use Rattle.lb_measure.specs.declared.places.Place.{Place}
use Rattle.lb_measure.proofs.Counting.{items_in-drop}
use Rattle.lb_measure.proofs.Measures.{nothing_is, places-more, places-start}
use Rattle.lb_measure.proofs.Sums.{AreNear-more, shown_sums-more}
use Rattle.lb_measure.proofs.places.places.Goals as goal

pub loop-k-init : goal.loop-k-init
loop-k-init c =
    let items : c.push.new.self.items ≡ blank ∷ [] = c.in_ok-push.ensures.items ∙ ap (λ (ps : List Place). ps ++ c.start.result ∷ []) c.in_ok-places.ensures.items ∙ ap (λ (p : Place). p ∷ []) c.start.ensures in
    record {
      long = ap length items;
      places = places-start c.args.rules.now c.args.list.now c.push.new.self.items items;
      sums = c.of_nothing-summing.ensures.sums ∙ nothing_is;
      count = omega (arith, c.of_nothing-summing.ensures.count);
      near = c.of_nothing-summing.ensures.near;
    }

pub add-requires-clause-few : goal.add-requires-clause-few
add-requires-clause-few c = omega (arith, c.requires, c.loop-k.invariant.count, items_in-drop c.args.list.now c.loop-k.k c.index-list-k.result c.loop-k-test.true c.index-list-k.is)

pub place_of-requires-clause-sums : goal.place_of-requires-clause-sums
place_of-requires-clause-sums c =
    c.add.ensures.sums ∙ ap (λ (s : LineSums). added s (sums_of (shown (c.index-list-k.result ∷ [])))) c.loop-k.invariant.sums
    ∙ sym (shown_sums-more c.args.list.now c.loop-k.k c.index-list-k.result c.loop-k-test.true c.index-list-k.is)

pub place_of-requires-clause-near : goal.place_of-requires-clause-near
place_of-requires-clause-near c = AreNear-more c.add.new.self.count 65536 c.add.new.self.sums (omega (arith, c.requires, c.add.ensures.count, c.loop-k.invariant.count, items_in-drop c.args.list.now c.loop-k.k c.index-list-k.result c.loop-k-test.true c.index-list-k.is)) c.add.ensures.near

pub loop-k-preserved : goal.loop-k-preserved
loop-k-preserved c =
    let items = c.in_ok-push-2.ensures.items in
    record {
      long = ap length items ∙ length-append c.loop-k.places.items (c.place_of.result ∷ []) ∙ ap (λ n. n + 1) c.loop-k.invariant.long;
      places = places-more c.args.rules.now c.args.list.now c.loop-k.places.items c.push-in-loop-k.new.self.items (c.loop-k.k + 1) c.place_of.result c.loop-k.invariant.long items c.place_of.ensures c.loop-k.invariant.places;
      sums = c.add.ensures.sums ∙ ap (λ (s : LineSums). added s (sums_of (shown (c.index-list-k.result ∷ [])))) c.loop-k.invariant.sums
          ∙ sym (shown_sums-more c.args.list.now c.loop-k.k c.index-list-k.result c.loop-k-test.true c.index-list-k.is);
      count = omega (arith, c.add.ensures.count, c.loop-k.invariant.count, items_in-drop c.args.list.now c.loop-k.k c.index-list-k.result c.loop-k-test.true c.index-list-k.is);
      near = c.add.ensures.near;
    }
