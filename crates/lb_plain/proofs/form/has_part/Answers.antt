use Rattle.std.proofs.Common.{◌∙◌}
use Rattle.lb_plain.proofs.Parted.{part-found, part-more, part-none}
use Rattle.lb_plain.proofs.form.has_part.Goals as goal

pub returns-then-starts_with : goal.returns-then-starts_with
returns-then-starts_with c = part-found c.args.part.now c.args.text.now c.loop-at.at c.starts_with.result c.loop-at-test.true c.starts_with.ensures.value c.if-starts_with.true ∙ c.loop-at.invariant

pub loop-at-preserved : goal.loop-at-preserved
loop-at-preserved c = part-more c.args.part.now c.args.text.now c.loop-at.at c.starts_with.result c.loop-at-test.true c.starts_with.ensures.value c.if-starts_with.false ∙ c.loop-at.invariant

pub returns : goal.returns
returns c = part-none c.args.part.now c.args.text.now c.loop-at.at c.loop-at-test.false ∙ c.loop-at.invariant
