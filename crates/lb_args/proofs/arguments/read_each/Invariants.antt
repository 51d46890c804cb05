use Rattle.std.proofs.Common.{length}
use Rattle.lb_model.specs.Arguments.{each_argument, looks_each}
use Rattle.lb_model_grammar.specs.Arguments.{parts_of}
use Rattle.lb_args.specs.Further.{AtParameter, further}
use Rattle.lb_args.proofs.ReadingLemmas.{Owed}
use Rattle.lb_args.proofs.arguments.read_each.Given as goal

abbrev pub invariant-parameters : goal.invariant-parameters
invariant-parameters g l =
    record {
      owed : Owed g.F.Feed (further l.arguments (each_argument l.long (parts_of l.rest).1)) (looks_each l.long (parts_of l.rest).1) (further l.fn.so_far (each_argument l.long (parts_of l.parameters).1)) (looks_each l.long (parts_of l.parameters).1) l.feed l.fn.feed;
      at : AtParameter l.rest;
    }

abbrev pub decreases-parameters : goal.decreases-parameters
decreases-parameters g l = length l.rest
