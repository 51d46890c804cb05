use Rattle.std.proofs.Common.{◌≡◌, ◌≤◌, drop, Some}
use Rattle.lb_model_grammar.specs.Arguments.{closes_at_end}
use Rattle.lb_args.proofs.bare.closes_at_end.Given as goal

abbrev pub invariant-tokens : goal.invariant-tokens
invariant-tokens l =
    record {
      same : closes_at_end (Some l.level) (drop l.index l.toks) ≡ closes_at_end (Some 0) l.toks;
      small : l.level ≤ l.index;
    }
