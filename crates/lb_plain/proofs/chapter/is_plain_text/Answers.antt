use Rattle.std.proofs.Common.{◌∙◌, sym, arith}
use Rattle.lb_model.specs.Lines.{lines_of}
use Rattle.lb_plain.proofs.ChapterLemmas.{plain, fits-none, fits-stop, fits-more, few-more}
use Rattle.lb_plain.proofs.chapter.is_plain_text.Goals as goal

pub loop-rest-init : goal.loop-rest-init
loop-rest-init c = record { few = omega arith; same = plain c.args.text.now }

pub returns-then-not-is_allowed : goal.returns-then-not-is_allowed
returns-then-not-is_allowed c =
    fits-stop c.loop-rest.behind_text c.loop-rest.count (lines_of c.loop-rest.rest.now) c.split_line.result.0.now (lines_of c.split_line.result.1.now) c.split_line.ensures.lines (sym c.is_allowed.ensures ∙ c.if-not-is_allowed.true)
    ∙ c.loop-rest.invariant.same

pub loop-rest-preserved : goal.loop-rest-preserved
loop-rest-preserved c = record {
  few = few-more c.loop-rest.behind_text c.loop-rest.count c.split_line.result.0.now c.loop-rest.invariant.few (sym c.is_allowed.ensures ∙ c.if-not-is_allowed.false) c.is_empty-behind_text.result c.from-count.result c.is_empty-behind_text.ensures c.from-count.ensures;
  same = fits-more c.loop-rest.behind_text c.loop-rest.count (lines_of c.loop-rest.rest.now) c.split_line.result.0.now (lines_of c.split_line.result.1.now) c.split_line.ensures.lines (sym c.is_allowed.ensures ∙ c.if-not-is_allowed.false) c.is_empty-behind_text.result c.from-count.result c.is_empty-behind_text.ensures c.from-count.ensures ∙ c.loop-rest.invariant.same;
}

pub returns : goal.returns
returns c = fits-none c.loop-rest.behind_text c.loop-rest.count c.loop-rest.rest.now (sym c.is_empty.ensures ∙ c.loop-rest-test.false) ∙ c.loop-rest.invariant.same
