use Rattle.std.proofs.Common.{◌∙◌, sym, ap}
use Rattle.std.proofs.lemmas.List.{take_rest, drop_all}
use Rattle.lb_model_book.specs.OwnLines.{after_blanks}
use Rattle.lb_plain.proofs.Blanks.{blank-more, blank-end, blank-none}
use Rattle.lb_plain.proofs.own_lines.skip_blanks.Goals as goal

pub returns-then-not-is_blank : goal.returns-then-not-is_blank
returns-then-not-is_blank c = take_rest c.args.line.now c.loop-start.start ∙ sym (blank-end c.args.line.now c.loop-start.start c.loop-start-test.true (sym c.is_blank.ensures ∙ c.if-not-is_blank.true)) ∙ c.loop-start.invariant

pub loop-start-preserved : goal.loop-start-preserved
loop-start-preserved c = sym (blank-more c.args.line.now c.loop-start.start c.loop-start-test.true (sym c.is_blank.ensures ∙ c.if-not-is_blank.false)) ∙ c.loop-start.invariant

pub returns : goal.returns
returns c = sym (ap after_blanks (drop_all c.loop-start.start c.args.line.now c.loop-start-test.false) ∙ blank-none) ∙ c.loop-start.invariant
