use Rattle.std.proofs.Common.{◌≤◌, []}
use Rattle.lb_model.specs.Configs.{in_file, looks_in_file}
use Rattle.lb_model.specs.Readings.{looks_taken, taken}
use Rattle.lb_model_grammar.specs.Arguments.{group}
use Rattle.lb_args.proofs.ReadingLemmas.{OwedOf}
use Rattle.lb_args.proofs.groups.read_group.Given as goal

abbrev pub invariant-tokens : goal.invariant-tokens
invariant-tokens g l =
    record {
      owed : OwedOf g.F.Feed (group l.long l.level l.body) (taken in_file (group l.long 0 [])) (looks_taken in_file looks_in_file (group l.long 0 [])) l.feed l.fn.feed;
      small : l.level ≤ l._turn;
    }
