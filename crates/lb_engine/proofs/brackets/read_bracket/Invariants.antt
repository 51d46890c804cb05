use Rattle.lb_model.specs.Configs.{in_file, looks_in_file}
use Rattle.lb_model.specs.Readings.{looks_taken, taken}
use Rattle.lb_model_engine.specs.Reads.{bracket}
use Rattle.lb_args.proofs.ReadingLemmas.{OwedOf}
use Rattle.lb_engine.proofs.brackets.read_bracket.Given as goal

abbrev pub invariant-tokens : goal.invariant-tokens
invariant-tokens g l = record { owed : OwedOf g.F.Feed bracket (taken in_file bracket) (looks_taken in_file looks_in_file bracket) l.feed l.fn.feed }
