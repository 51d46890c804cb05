use Rattle.std.proofs.Common.{◌≡◌, drop, List}
use Rattle.lb_model_grammar.specs.Arguments.{begins}
use Rattle.lb_model_grammar.specs.declared.given.Given.{Given}
use Rattle.lb_args.specs.Fits.{given_before}
use Rattle.lb_args.proofs.fitting.fit_of.Given as goal

abbrev pub invariant-tokens : goal.invariant-tokens
invariant-tokens l =
    record { same : (given : List Given) → begins l.delimiter (given_before l.window given) ≡ begins (drop l.index l.delimiter) (given_before (drop l.index l.window) given) }
