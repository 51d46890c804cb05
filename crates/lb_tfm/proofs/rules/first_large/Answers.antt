use Rattle.std.proofs.Common.{sym, ◌∙◌}
use Rattle.lb_model_paper.specs.FontRules.{is_large}
use Rattle.lb_tfm.proofs.Searches.{find-later}
use Rattle.lb_tfm.proofs.rules.first_large.Goals as goal

pub loop-word-preserved : goal.loop-word-preserved
loop-word-preserved c = find-later (is_large c.args.bytes.now) c.loop-word.word _ _ c.loop-word-test.true (sym c.is_large.ensures ∙ c.if-is_large.false) c.loop-word.invariant
