use Rattle.std.proofs.Common.{◌≤◌, length}
use Rattle.lb_tests_text.proofs.many.tokens_of.Given as goal

abbrev pub invariant-loop : goal.invariant-loop
invariant-loop g l = l.reader.at ≤ length l.reader.line
