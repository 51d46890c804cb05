use Rattle.std.proofs.Common.{◌++◌, length}
use Rattle.lb_model.specs.Lines.{lines_of}
use Rattle.lb_model_book.specs.PlainForm.{lines_with_text}
use Rattle.lb_model_book.specs.PlainPages.{lines_marks}
use Rattle.lb_plain.proofs.Placed.{Placed}
use Rattle.lb_plain.proofs.page.push_lines.Given as goal

abbrev pub invariant-loop-rest : goal.invariant-loop-rest
invariant-loop-rest l = Placed l.text (lines_of l.rest) l.count l.marks (l.fn.marks ++ lines_marks 0 (lines_with_text l.text))

abbrev pub decreases-loop-rest : goal.decreases-loop-rest
decreases-loop-rest l = length l.rest
