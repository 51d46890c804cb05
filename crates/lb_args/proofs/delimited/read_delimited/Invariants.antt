use Rattle.std.proofs.Common.{[]}
use Rattle.lb_model.specs.Configs.{in_file, looks_in_file}
use Rattle.lb_model.specs.Readings.{looks_taken, taken}
use Rattle.lb_model_grammar.specs.Arguments.{delimited}
use Rattle.lb_args.specs.Fits.{GoesOn, decided}
use Rattle.lb_args.proofs.ReadingLemmas.{OwedOf}
use Rattle.lb_args.proofs.delimited.read_delimited.Given as goal

abbrev pub invariant-tokens : goal.invariant-tokens
invariant-tokens g l =
    record {
      owed : OwedOf g.F.Feed (decided l.long l.delimiter l.toks l.level l.count) (taken in_file (delimited l.long l.delimiter 0 [])) (looks_taken in_file looks_in_file (delimited l.long l.delimiter 0 [])) l.feed l.fn.feed;
      goes : GoesOn l.long l.delimiter l.toks l.count l.level;
    }
