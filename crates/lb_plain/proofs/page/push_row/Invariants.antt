use Rattle.std.proofs.Common.{◌++◌, []}
use Rattle.lb_model_book.specs.PlainPages.{row_marks}
use Rattle.lb_plain.proofs.Rows.{Stands}
use Rattle.lb_plain.proofs.page.push_row.Given as goal

abbrev pub invariant-loop-code : goal.invariant-loop-code
invariant-loop-code l = Stands l.start l.v l.row l.code-index l.h l.marks (l.fn.marks ++ row_marks l.start l.v [] l.row)
