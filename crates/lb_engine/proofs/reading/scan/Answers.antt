use Rattle.std.proofs.Common.{refl, rules}
use Rattle.lb_model_expansion.specs.Expansion.{scan_asked}
use Rattle.lb_model_expansion.specs.declared.expansion.Answer.TheVariants as answer
use Rattle.lb_model_expansion.specs.declared.expansion.Went.TheVariants.{Answered, Stopped, StoppedAt}
use Rattle.lb_model_nest.specs.declared.turn.Went.TheVariants as went
use Rattle.lb_model_engine.specs.Reads.{answer_to, scanned_to}
use Rattle.lb_engine.specs.Reads.{behind_reading}
use Rattle.lb_engine.specs.declared.reading.Reading.TheVariants.{Of, Stops}
use Rattle.lb_engine.proofs.ModesOfSteps.{scan_asked-stays}
use Rattle.lb_engine.proofs.ReadingLemmas.{asked-leads, ended-at, ended-fault}
use Rattle.lb_engine.proofs.reading.scan.Goals as goal

pub returns-in-Ok : goal.returns-in-Ok
returns-in-Ok g c =
    record {
      leads =
          λ row.
          asked-leads g.C.Cells (scan_asked c.args.kind) (λ way w. answer_to way (λ a v. scanned_to a row v) w) (behind_reading row) (Answered (answer.Scanned c.in-Ok.found)) (Of c.in-Ok.found) (scan_asked-stays c.args.kind) c.in_ok-make_ready.ensures
          c.requires.holds refl c.over-feeder.ensures.cells c.over-feeder.ensures.desk (search rules) refl c.in-Ok.ensures.performs;
    }

pub returns-in-Err-Fault : goal.returns-in-Err-Fault
returns-in-Err-Fault g c =
    record {
      leads =
          λ row.
          asked-leads g.C.Cells (scan_asked c.args.kind) (λ way w. answer_to way (λ a v. scanned_to a row v) w) (behind_reading row) (Stopped c.in-Err-Fault.kind) (Stops (went.Stopped c.in-Err-Fault.kind)) (scan_asked-stays c.args.kind) c.in_ok-make_ready.ensures
          c.requires.holds refl c.over-feeder.ensures.cells c.over-feeder.ensures.desk (search rules) (ended-fault (λ found. Answered (answer.Scanned found)) c.in-Err-Fault.field-0-is) c.in-Err-Fault.ensures.performs;
    }

pub returns-in-Err-At : goal.returns-in-Err-At
returns-in-Err-At g c =
    record {
      leads =
          λ row.
          asked-leads g.C.Cells (scan_asked c.args.kind) (λ way w. answer_to way (λ a v. scanned_to a row v) w) (behind_reading row) (StoppedAt c.in-Err-At.fault) (Stops (went.StoppedAt c.in-Err-At.fault)) (scan_asked-stays c.args.kind) c.in_ok-make_ready.ensures
          c.requires.holds refl c.over-feeder.ensures.cells c.over-feeder.ensures.desk (search rules) (ended-at (λ found. Answered (answer.Scanned found)) c.in-Err-At.field-0-is) c.in-Err-At.ensures.performs;
    }
