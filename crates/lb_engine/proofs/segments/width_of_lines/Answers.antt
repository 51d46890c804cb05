use Rattle.std.proofs.Common.{ap, arith, drop}
use Rattle.lb_engine.specs.Segments.{width_of_lines}
use Rattle.lb_engine.proofs.SegmentLemmas.{width_none, width_past, width_feed_at, width_other_at}
use Rattle.lb_engine.proofs.segments.width_of_lines.Goals as goal
use Rattle.lb_engine.proofs.segments.width_of_lines.Goals.{then-text-at-eq10, else-text-at-eq10}

pub returns-then-left-eq0-clause-width : goal.returns-then-left-eq0-clause-width
returns-then-left-eq0-clause-width c =
    let rest = drop c.loop-at.at c.args.text.now in
    omega (arith, c.loop-at.invariant.width, ap (λ n. width_of_lines n rest) c.if-left-eq0.true, width_none rest)

pub loop-at-preserved : goal.loop-at-preserved
loop-at-preserved c =
    let text = c.args.text.now in
    let before = width_of_lines c.args.lines text in
    elim c.if-text-at-eq10.branch [
      | then-text-at-eq10 w ↦ record { width = width_feed_at before c.loop-at.left c.if-text-at-eq10.left c.loop-at.at text c.loop-at.invariant.width c.if-left-eq0.false c.loop-at-test.true w.if-text-at-eq10.true w.left-is }
      | else-text-at-eq10 w ↦ record { width = width_other_at before c.loop-at.left c.if-text-at-eq10.left c.loop-at.at text c.loop-at.invariant.width c.if-left-eq0.false c.loop-at-test.true w.if-text-at-eq10.false w.left-is }
    ]

pub returns-clause-width : goal.returns-clause-width
returns-clause-width c = omega (arith, c.loop-at.invariant.width, c.loop-at.auto.at-end, c.loop-at-test.false, width_past c.loop-at.left c.loop-at.at c.args.text.now (omega (arith, c.loop-at-test.false)))
