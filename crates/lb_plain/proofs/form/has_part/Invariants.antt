use Rattle.std.proofs.Common.{◌≡◌, drop}
use Rattle.lb_model_book.specs.PlainForm.{has_part}
use Rattle.lb_plain.proofs.form.has_part.Given as goal

abbrev pub invariant-loop-at : goal.invariant-loop-at
invariant-loop-at l = has_part l.part (drop l.at l.text) ≡ has_part l.part l.text
