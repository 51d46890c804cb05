use Rattle.std.proofs.Common.{◌∙◌, sym}
use Rattle.lb_plain.proofs.Spaced.{spaced-more, spaced-stop, spaced-end}
use Rattle.lb_plain.proofs.chapter.is_spaced.Goals as goal

pub returns-then-not-may_follow : goal.returns-then-not-may_follow
returns-then-not-may_follow c = spaced-stop c.args.line.now c.loop-byte.byte-index c.loop-byte.behind_space c.loop-byte-test.true (sym c.may_follow.ensures ∙ c.if-not-may_follow.true) ∙ c.loop-byte.invariant

pub loop-byte-preserved : goal.loop-byte-preserved
loop-byte-preserved c = spaced-more c.args.line.now c.loop-byte.byte-index c.loop-byte.behind_space c.loop-byte-test.true (sym c.may_follow.ensures ∙ c.if-not-may_follow.false) ∙ c.loop-byte.invariant

pub returns : goal.returns
returns c = spaced-end c.args.line.now c.loop-byte.byte-index c.loop-byte.behind_space c.loop-byte-test.false ∙ c.loop-byte.invariant
