use Rattle.std.proofs.Common.{◌≡◌, ◌++◌}
use Rattle.lb_model_grammar.specs.Printed.{copies}
use Rattle.lb_print.proofs.roman.write_numeral.Given as goal

abbrev pub invariant-loop-time : goal.invariant-loop-time
invariant-loop-time l = l.text ≡ l.fn.text ++ copies l.time l.letters
