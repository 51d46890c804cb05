use Rattle.std.proofs.Common.{◌≡◌, ◌++◌, take}
use Rattle.lb_model_journal.specs.Written.{written}
use Rattle.lb_aux.proofs.tokens.push_written.Given as goal

abbrev pub invariant-loop-tok : goal.invariant-loop-tok
invariant-loop-tok l = l.text ≡ l.fn.text ++ written (take l.tok-index l.toks)
