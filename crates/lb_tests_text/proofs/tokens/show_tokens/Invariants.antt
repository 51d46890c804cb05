use Rattle.std.proofs.Common.{◌≤◌, length}
use Rattle.lb_tests_text.proofs.tokens.show_tokens.Given as goal

abbrev pub invariant-loop : goal.invariant-loop
invariant-loop l = l.reader.at ≤ length l.reader.line
