use Rattle.std.proofs.lemmas.Bool.{iff_false}
use Rattle.lb_nodes.proofs.Totalling.{AreSmallTotals-so_far, AreSmallUpTo-none, AreSmallUpTo-turn, AreTotals-turn}
use Rattle.lb_nodes.proofs.measure.measure.Goals as goal

pub loop-node-init : goal.loop-node-init
loop-node-init c =
    let of_nothing = c.of_nothing-totals.ensures c.args.axis in
    record {
      so_far = of_nothing.0;
      small = of_nothing.1;
      sums = AreSmallUpTo-none c.args.axis c.args.nodes.now c.of_nothing-totals.result of_nothing.0 of_nothing.1;
    }

pub returns-then-not-are_small-clause-large : goal.returns-then-not-are_small-clause-large
returns-then-not-are_small-clause-large c = λ sums.
    let are = AreTotals-turn c.args.axis c.args.nodes.now c.loop-node.node-index c.node-item.result c.add.new.self c.loop-node-test.true c.node-item.is (c.add.ensures _ c.loop-node.invariant.so_far) in
    iff_false c.are_small.ensures c.if-not-are_small.true (AreSmallTotals-so_far c.args.axis c.args.nodes.now c.loop-node.node-index c.add.new.self c.loop-node-test.true are sums)

pub loop-node-preserved : goal.loop-node-preserved
loop-node-preserved c =
    let are = AreTotals-turn c.args.axis c.args.nodes.now c.loop-node.node-index c.node-item.result c.add.new.self c.loop-node-test.true c.node-item.is (c.add.ensures _ c.loop-node.invariant.so_far) in
    let small = c.are_small.ensures.0 c.if-not-are_small.false in
    record {
      so_far = are;
      small = small;
      sums = AreSmallUpTo-turn c.args.axis c.args.nodes.now c.loop-node.node-index c.add.new.self c.loop-node.invariant.sums are small;
    }
