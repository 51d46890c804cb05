use Rattle.std.proofs.Common.{arith}
use Rattle.lb_engine.proofs.SegmentLemmas.{lines-none}
use Rattle.lb_engine.proofs.segments.count_lines.Goals as goal

pub returns : goal.returns
returns c =
    omega
    (arith, c.lines.invariant.counted, c.lines.invariant.left, c.lines.auto._line-end, c.lines-test.false, lines-none c.lines.lines.rest.now (omega (arith, c.lines.invariant.left, c.lines-test.false)))
