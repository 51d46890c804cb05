use Rattle.lb_model.specs.Configs.{in_file, looks_in_file}
use Rattle.lb_model.specs.Readings.{looks_taken, taken}
use Rattle.lb_model_grammar.specs.Arguments.{undelimited}
use Rattle.lb_args.proofs.ReadingLemmas.{OwedOf}
use Rattle.lb_args.proofs.undelimited.read_undelimited.Given as goal

abbrev pub invariant-tokens : goal.invariant-tokens
invariant-tokens g l =
    record { owed : OwedOf g.F.Feed (undelimited l.long) (taken in_file (undelimited l.long)) (looks_taken in_file looks_in_file (undelimited l.long)) l.feed l.fn.feed }
