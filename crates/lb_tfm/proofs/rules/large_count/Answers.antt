use Rattle.std.proofs.Common.{sym, ◌∙◌, refl}
use Rattle.lb_model_paper.specs.FontRules.{has_large_count, large_count}
use Rattle.lb_tfm.proofs.Searches.{find-later}
use Rattle.lb_tfm.proofs.rules.large_count.Goals as goal

pub loop-word-init : goal.loop-word-init
unfolding large_count
loop-word-init c = refl

pub loop-word-preserved : goal.loop-word-preserved
loop-word-preserved c = find-later (has_large_count c.args.bytes.now) c.loop-word.word _ _ c.loop-word-test.true (sym c.has_large_count.ensures ∙ c.if-has_large_count.false) c.loop-word.invariant
