use Rattle.std.proofs.Common.{◌≡◌, length}
use Rattle.lb_model.specs.Lines.{lines_of}
use Rattle.lb_model_book.specs.PlainForm.{names_to_end}
use Rattle.lb_plain.proofs.Names.{behind}
use Rattle.lb_plain.proofs.main_file.names_to_end.Given as goal

abbrev pub invariant-loop-rest : goal.invariant-loop-rest
invariant-loop-rest l = behind l.names (names_to_end (lines_of l.rest)) ≡ names_to_end (lines_of l.text)

abbrev pub decreases-loop-rest : goal.decreases-loop-rest
decreases-loop-rest l = length l.rest
