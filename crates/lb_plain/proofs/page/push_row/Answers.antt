use Rattle.std.proofs.Common.{◌++◌, []}
use Rattle.lb_model_book.specs.PlainPages.{row_marks}
use Rattle.lb_plain.proofs.Rows.{stands-more, stands-all}
use Rattle.lb_plain.proofs.page.push_row.Goals as goal

pub loop-code-preserved : goal.loop-code-preserved
loop-code-preserved c =
    stands-more c.args.start c.args.v c.args.row.now c.loop-code.code-index c.loop-code.h c.loop-code.marks (c.args.marks.now ++ row_marks c.args.start c.args.v [] c.args.row.now) c.loop-code.invariant c.loop-code-test.true
    c.push_character.new.marks c.in_ok-push_character.ensures c.advance-h.result c.advance-h.ensures.value c.advance-h.ensures.most

pub returns : goal.returns
returns c =
    stands-all c.args.start c.args.v c.args.row.now c.loop-code.code-index c.loop-code.h c.loop-code.marks (c.args.marks.now ++ row_marks c.args.start c.args.v [] c.args.row.now) c.loop-code.invariant c.loop-code-test.false
