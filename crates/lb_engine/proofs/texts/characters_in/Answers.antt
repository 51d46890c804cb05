use Rattle.std.proofs.Common.{refl, rules}
use Rattle.lb_model.specs.declared.open.Purpose.TheVariants.{Asked}
use Rattle.lb_model_expansion.specs.Expansion.{if_room, ran, word_behind}
use Rattle.lb_model_expansion.specs.Steps.{and_then}
use Rattle.lb_model_expansion.specs.declared.expansion.Answer.TheVariants as answer
use Rattle.lb_model_expansion.specs.declared.expansion.Went.TheVariants.{Answered, Stopped, StoppedAt}
use Rattle.lb_model_nest.specs.declared.turn.Went.TheVariants as went
use Rattle.lb_model_engine.specs.Reads.{answer_to, word_to}
use Rattle.lb_engine.specs.Reads.{behind_reading}
use Rattle.lb_engine.specs.declared.reading.Reading.TheVariants.{Of, Stops}
use Rattle.lb_engine.proofs.ModesOfSteps.{word_of-stays}
use Rattle.lb_engine.proofs.ReadingLemmas.{asked-leads, ended-at, ended-fault}
use Rattle.lb_engine.proofs.texts.characters_in.Goals as goal

pub returns-in-Ok : goal.returns-in-Ok
returns-in-Ok g c =
    record {
      leads =
          λ row.
          asked-leads g.C.Cells (λ d. and_then (if_room (word_behind c.args.toks Asked) d) ran) (λ way w. answer_to way (λ a v. word_to a row v) w) (behind_reading row) (Answered (answer.Word c.in-Ok.text)) (Of c.in-Ok.text) (word_of-stays c.args.toks) c.in_ok-make_ready.ensures
          c.requires.holds refl c.over-feeder.ensures.cells c.over-feeder.ensures.desk (search rules) refl c.in-Ok.ensures.performs;
    }

pub returns-in-Err-Fault : goal.returns-in-Err-Fault
returns-in-Err-Fault g c =
    record {
      leads =
          λ row.
          asked-leads g.C.Cells (λ d. and_then (if_room (word_behind c.args.toks Asked) d) ran) (λ way w. answer_to way (λ a v. word_to a row v) w) (behind_reading row) (Stopped c.in-Err-Fault.kind) (Stops (went.Stopped c.in-Err-Fault.kind)) (word_of-stays c.args.toks) c.in_ok-make_ready.ensures
          c.requires.holds refl c.over-feeder.ensures.cells c.over-feeder.ensures.desk (search rules) (ended-fault (λ text. Answered (answer.Word text)) c.in-Err-Fault.field-0-is) c.in-Err-Fault.ensures.performs;
    }

pub returns-in-Err-At : goal.returns-in-Err-At
returns-in-Err-At g c =
    record {
      leads =
          λ row.
          asked-leads g.C.Cells (λ d. and_then (if_room (word_behind c.args.toks Asked) d) ran) (λ way w. answer_to way (λ a v. word_to a row v) w) (behind_reading row) (StoppedAt c.in-Err-At.fault) (Stops (went.StoppedAt c.in-Err-At.fault)) (word_of-stays c.args.toks) c.in_ok-make_ready.ensures
          c.requires.holds refl c.over-feeder.ensures.cells c.over-feeder.ensures.desk (search rules) (ended-at (λ text. Answered (answer.Word text)) c.in-Err-At.field-0-is) c.in-Err-At.ensures.performs;
    }
