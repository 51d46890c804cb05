use Rattle.std.proofs.Common.{◌≡◌, true, drop}
use Rattle.lb_model_book.specs.PlainForm.{is_spaced}
use Rattle.lb_plain.proofs.chapter.is_spaced.Given as goal

abbrev pub invariant-loop-byte : goal.invariant-loop-byte
invariant-loop-byte l = is_spaced l.behind_space (drop l.byte-index l.line) ≡ is_spaced true l.line
