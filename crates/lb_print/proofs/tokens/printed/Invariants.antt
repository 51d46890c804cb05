use Rattle.std.proofs.Common.{◌≡◌, take}
use Rattle.lb_model_grammar.specs.Printed.{printed}
use Rattle.lb_print.proofs.tokens.printed.Given as goal

abbrev pub invariant-loop-code : goal.invariant-loop-code
invariant-loop-code l = l.toks ≡ printed (take l.code-index l.text)
