use Rattle.std.specs.declared.alloc.AllocError.{AllocError}
use Rattle.std.proofs.Common.{Ok, refl, rules, ap}
use Rattle.lb_model_expansion.specs.Expansion.{ran}
use Rattle.lb_model_expansion.specs.declared.expansion.Went.TheVariants.{Gave, Over, Stopped, StoppedAt}
use Rattle.lb_model_nest.specs.declared.turn.Went.TheVariants as went
use Rattle.lb_model_engine.specs.Reads.{meaning_to, token_to}
use Rattle.lb_engine.specs.Reads.{behind_next}
use Rattle.lb_engine.specs.declared.reading.Next.TheVariants.{End, Stops}
use Rattle.lb_expand.specs.Turns.{ended_with, token_came}
use Rattle.lb_engine.proofs.ModesOfSteps.{ran-stays}
use Rattle.lb_engine.proofs.ReadingLemmas.{asked-leads, ended-at, ended-fault, leads-meaning}
use Rattle.lb_engine.proofs.reading.next_or_end.Goals as goal

pub returns-in_ok-meaning-in-Ok-Some : goal.returns-in_ok-meaning-in-Ok-Some
returns-in_ok-meaning-in-Ok-Some g c =
    let C = g.C.Cells in
    let s = c.in-Ok-Some in
    let m = c.in_ok-meaning-in-Ok-Some in
    record {
      leads =
          λ at_end row.
          leads-meaning {E = AllocError} C row s.tok m.meaning m.ensures.told m.ensures.value m.ensures.notes refl
          (asked-leads {F = AllocError} C ran (λ way w. token_to way (λ tok v. meaning_to row tok v) at_end w) (λ x. meaning_to row s.tok) (Gave s.tok) s.tok ran-stays c.in_ok-make_ready.ensures c.requires.holds refl c.over-feeder.ensures.cells
          c.over-feeder.ensures.desk (search rules) (ap (λ o. ended_with token_came (Ok o)) s.field-0-is) s.ensures.performs);
    }

pub returns-in-Ok-None : goal.returns-in-Ok-None
returns-in-Ok-None g c =
    record {
      leads =
          λ at_end row.
          asked-leads g.C.Cells ran (λ way w. token_to way (λ tok v. meaning_to row tok v) at_end w) (behind_next at_end row) Over End ran-stays c.in_ok-make_ready.ensures
          c.requires.holds refl c.over-feeder.ensures.cells c.over-feeder.ensures.desk (search rules) (ap (λ o. ended_with token_came (Ok o)) c.in-Ok-None.field-0-is) c.in-Ok-None.ensures.performs;
    }

pub returns-in-Err-Fault : goal.returns-in-Err-Fault
returns-in-Err-Fault g c =
    record {
      leads =
          λ at_end row.
          asked-leads g.C.Cells ran (λ way w. token_to way (λ tok v. meaning_to row tok v) at_end w) (behind_next at_end row) (Stopped c.in-Err-Fault.kind) (Stops (went.Stopped c.in-Err-Fault.kind)) ran-stays
          c.in_ok-make_ready.ensures c.requires.holds refl c.over-feeder.ensures.cells c.over-feeder.ensures.desk (search rules) (ended-fault token_came c.in-Err-Fault.field-0-is) c.in-Err-Fault.ensures.performs;
    }

pub returns-in-Err-At : goal.returns-in-Err-At
returns-in-Err-At g c =
    record {
      leads =
          λ at_end row.
          asked-leads g.C.Cells ran (λ way w. token_to way (λ tok v. meaning_to row tok v) at_end w) (behind_next at_end row) (StoppedAt c.in-Err-At.fault) (Stops (went.StoppedAt c.in-Err-At.fault)) ran-stays
          c.in_ok-make_ready.ensures c.requires.holds refl c.over-feeder.ensures.cells c.over-feeder.ensures.desk (search rules) (ended-at token_came c.in-Err-At.field-0-is) c.in-Err-At.ensures.performs;
    }
