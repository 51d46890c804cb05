use Rattle.std.proofs.Common.{◌≡◌, ◌++◌, take, drop}
use Rattle.lb_model_grammar.specs.Arguments.{parts_of}
use Rattle.lb_args.proofs.arguments.before_parameter.Given as goal

abbrev pub invariant-tokens : goal.invariant-tokens
invariant-tokens l = record { parts : parts_of l.toks ≡ (take l.index l.toks ++ (parts_of (drop l.index l.toks)).0, (parts_of (drop l.index l.toks)).1) }
