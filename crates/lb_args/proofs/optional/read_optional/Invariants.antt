use Rattle.lb_model.specs.Configs.{in_file, looks_in_file}
use Rattle.lb_model.specs.Readings.{looks_taken, taken}
use Rattle.lb_model_grammar.specs.Arguments.{optional}
use Rattle.lb_args.proofs.ReadingLemmas.{OwedOf}
use Rattle.lb_args.proofs.optional.read_optional.Given as goal

abbrev pub invariant-tokens : goal.invariant-tokens
invariant-tokens g l =
    record { owed : OwedOf g.F.Feed (optional l.long l.default) (taken in_file (optional l.long l.default)) (looks_taken in_file looks_in_file (optional l.long l.default)) l.feed l.fn.feed }
