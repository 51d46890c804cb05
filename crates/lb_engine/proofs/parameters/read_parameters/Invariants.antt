use Rattle.std.proofs.Common.{◌≤◌, [], false}
use Rattle.lb_model.specs.Configs.{in_file, looks_in_file}
use Rattle.lb_model.specs.Readings.{looks_taken, taken}
use Rattle.lb_model_engine.specs.Definitions.{parameter_text}
use Rattle.lb_args.proofs.ReadingLemmas.{OwedOf}
use Rattle.lb_engine.proofs.parameters.read_parameters.Given as goal

abbrev pub invariant-tokens : goal.invariant-tokens
invariant-tokens g l =
    record {
      owed : OwedOf g.F.Feed (parameter_text l.marked l.parameters l.tokens) (taken in_file (parameter_text false 0 [])) (looks_taken in_file looks_in_file (parameter_text false 0 [])) l.feed l.fn.feed;
      few : l.parameters ≤ 9;
    }
