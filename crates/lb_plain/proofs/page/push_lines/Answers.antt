use Rattle.std.proofs.Common.{◌∙◌, ◌++◌, sym}
use Rattle.lb_model.specs.Lines.{lines_of}
use Rattle.lb_model_book.specs.PlainForm.{lines_with_text}
use Rattle.lb_model_book.specs.PlainPages.{lines_marks}
use Rattle.lb_plain.proofs.Placed.{placed-none, placed-more, placed-all}
use Rattle.lb_plain.proofs.page.push_lines.Goals as goal

pub loop-rest-init : goal.loop-rest-init
loop-rest-init c = placed-none c.args.text.now c.args.marks.now c.requires.plain

pub loop-rest-preserved : goal.loop-rest-preserved
loop-rest-preserved c =
    placed-more c.args.text.now (lines_of c.loop-rest.rest.now) c.split_line.result.0.now (lines_of c.split_line.result.1.now) c.loop-rest.count c.loop-rest.marks (c.args.marks.now ++ lines_marks 0 (lines_with_text c.args.text.now))
    c.loop-rest.invariant c.split_line.ensures.lines c.push_line.new.marks c.in_ok-push_line.ensures c.is_empty-in-loop-rest.result c.from-count.result c.is_empty-in-loop-rest.ensures c.from-count.ensures

pub returns-clause-marks : goal.returns-clause-marks
returns-clause-marks c =
    (placed-all c.args.text.now c.loop-rest.rest.now c.loop-rest.count c.loop-rest.marks (c.args.marks.now ++ lines_marks 0 (lines_with_text c.args.text.now)) c.loop-rest.invariant (sym c.is_empty.ensures ∙ c.loop-rest-test.false)).same

pub returns-clause-count : goal.returns-clause-count
returns-clause-count c =
    (placed-all c.args.text.now c.loop-rest.rest.now c.loop-rest.count c.loop-rest.marks (c.args.marks.now ++ lines_marks 0 (lines_with_text c.args.text.now)) c.loop-rest.invariant (sym c.is_empty.ensures ∙ c.loop-rest-test.false)).counts
