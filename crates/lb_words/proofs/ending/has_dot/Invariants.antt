use Rattle.std.proofs.Common.{◌≡◌, false, drop}
use Rattle.lb_model_grammar.specs.Words.{has_dot}
use Rattle.lb_words.proofs.ending.has_dot.Given as goal

abbrev pub invariant-loop-c : goal.invariant-loop-c
invariant-loop-c l = has_dot l.seen (drop l.c-index l.name) ≡ has_dot false l.name
