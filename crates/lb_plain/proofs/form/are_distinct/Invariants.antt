use Rattle.std.proofs.Common.{◌≡◌, drop}
use Rattle.lb_model_book.specs.PlainForm.{are_distinct}
use Rattle.lb_plain.proofs.form.are_distinct.Given as goal

abbrev pub invariant-loop-at : goal.invariant-loop-at
invariant-loop-at l = are_distinct (drop l.at l.names) ≡ are_distinct l.names
