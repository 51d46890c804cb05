use Rattle.std.proofs.Common.{drop}
use Rattle.lb_model.specs.Configs.{in_file, looks_in_file}
use Rattle.lb_model.specs.Readings.{looks_taken, taken}
use Rattle.lb_model_grammar.specs.Arguments.{front}
use Rattle.lb_args.proofs.ReadingLemmas.{OwedOf}
use Rattle.lb_args.proofs.front.read_front.Given as goal

abbrev pub invariant-tokens : goal.invariant-tokens
invariant-tokens g l =
    record { owed : OwedOf g.F.Feed (front (drop l.index l.toks)) (taken in_file (front l.toks)) (looks_taken in_file looks_in_file (front l.toks)) l.feed l.fn.feed }
