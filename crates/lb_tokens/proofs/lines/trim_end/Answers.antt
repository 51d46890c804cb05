use Rattle.std.proofs.Common.{◌∙◌, arith}
use Rattle.lb_tokens.proofs.LineEnds.{trim-space, trim-stop, trim-none}
use Rattle.lb_tokens.proofs.lines.trim_end.Goals as goal

pub returns-then-line-end-ne32 : goal.returns-then-line-end-ne32
returns-then-line-end-ne32 c = trim-stop c.args.line.now c.loop-end.end c.loop-end-test.true c.loop-end.invariant.within c.if-line-end-ne32.true ∙ c.loop-end.invariant.same

pub loop-end-preserved : goal.loop-end-preserved
loop-end-preserved c = record {
  within = omega arith;
  same = trim-space c.args.line.now c.loop-end.end c.loop-end-test.true c.loop-end.invariant.within c.if-line-end-ne32.false ∙ c.loop-end.invariant.same;
}

pub returns : goal.returns
returns c = trim-none c.args.line.now c.loop-end.end (omega arith) ∙ c.loop-end.invariant.same
