use Rattle.std.proofs.Common.{◌∙◌, sym, ap, arith, ◌-◌}
use Rattle.lb_model_paper.specs.Words.{passed}
use Rattle.lb_text.specs.Stops.{cursor_of}
use Rattle.lb_text.proofs.Cursors.{begins_on, passed_more}
use Rattle.lb_text.proofs.rewriting.pass.Goals as goal

pub loop-more-preserved : goal.loop-more-preserved
loop-more-preserved c = (
  ap (passed c.args.font.now (c.loop-more.more - 1)) c.in_ok-left.ensures.ok
      ∙ sym (passed_more c.args.font.now c.loop-more.more (cursor_of c.loop-more.list c.loop-more.left c.loop-more.stack.items) (omega arith))
      ∙ c.loop-more.invariant.0,
  begins_on _ _ _ c.loop-more.invariant.1 c.pass_one.ensures.begins,
  omega (arith, c.pass_one.ensures.size, c.loop-more.invariant.2),
)
