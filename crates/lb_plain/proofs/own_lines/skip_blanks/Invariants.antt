use Rattle.std.proofs.Common.{◌≡◌, drop}
use Rattle.lb_model_book.specs.OwnLines.{after_blanks}
use Rattle.lb_plain.proofs.own_lines.skip_blanks.Given as goal

abbrev pub invariant-loop-start : goal.invariant-loop-start
invariant-loop-start l = after_blanks (drop l.start l.line) ≡ after_blanks l.line
