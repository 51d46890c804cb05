use Rattle.std.proofs.Common.{sym, ◌∙◌, refl}
use Rattle.lb_model_paper.specs.FontRules.{is_wrong_dimension, wrong_dimension}
use Rattle.lb_tfm.proofs.Searches.{find-later}
use Rattle.lb_tfm.proofs.rules.wrong_dimension.Goals as goal

pub loop-word-init : goal.loop-word-init
unfolding wrong_dimension
loop-word-init c = rw (c.first_width-word.ensures, c.first_step-word-end.ensures) refl

pub loop-word-preserved : goal.loop-word-preserved
loop-word-preserved c = find-later (is_wrong_dimension c.args.bytes.now c.args.counts) c.loop-word.word _ _ c.loop-word-test.true (sym c.is_wrong_dimension.ensures ∙ c.if-is_wrong_dimension.false) c.loop-word.invariant
