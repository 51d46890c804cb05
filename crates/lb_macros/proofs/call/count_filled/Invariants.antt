use Rattle.std.proofs.Common.{◌≡◌, ◌+◌, ◌≤◌, length, drop, min}
use Rattle.lb_model_grammar.specs.Arguments.{substituted}
use Rattle.lb_macros.proofs.call.count_filled.Given as goal

abbrev pub invariant-loop-tok : goal.invariant-loop-tok
invariant-loop-tok l =
    record {
      small : l.count ≤ 1000001;
      rest : min (l.count + length (substituted l.arguments (drop l.tok-index l.body))) 1000001 ≡ min (length (substituted l.arguments l.body)) 1000001;
    }
