use Rattle.std.proofs.Common.{◌∙◌}
use Rattle.lb_plain.proofs.Parted.{distinct-none, distinct-stop, distinct-more}
use Rattle.lb_plain.proofs.form.are_distinct.Goals as goal

pub returns-then-is_among : goal.returns-then-is_among
returns-then-is_among c = distinct-stop c.args.names.now c.loop-at.at c.index-names-at.result c.loop-at-test.true c.index-names-at.is c.is_among.result c.is_among.ensures c.if-is_among.true ∙ c.loop-at.invariant

pub loop-at-preserved : goal.loop-at-preserved
loop-at-preserved c = distinct-more c.args.names.now c.loop-at.at c.index-names-at.result c.loop-at-test.true c.index-names-at.is c.is_among.result c.is_among.ensures c.if-is_among.false ∙ c.loop-at.invariant

pub returns : goal.returns
returns c = distinct-none c.args.names.now c.loop-at.at c.loop-at-test.false ∙ c.loop-at.invariant
