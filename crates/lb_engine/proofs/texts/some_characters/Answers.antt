use Rattle.std.proofs.Common.{refl, List, Some}
use Rattle.std.specs.Prelude.{Option, ℕ}
use Rattle.lb_model_nest.specs.Wholes.{Executed, Whole}
use Rattle.lb_engine.specs.Reads.{behind_reading}
use Rattle.lb_engine.specs.declared.reading.Reading.TheVariants as reading
use Rattle.lb_engine.proofs.RowLemmas.{read-ends, read-fails}
use Rattle.lb_engine.proofs.texts.some_characters.Goals as goal

-- what is done with them
abbrev of : (Option (List ℕ) → Whole → Executed) → List ℕ → Whole → Executed
of row text v = row (Some text) v

pub returns-in-Of : goal.returns-in-Of
returns-in-Of g c = record { leads = λ row. read-ends (behind_reading (of row)) (behind_reading row) (reading.Of (Some c.in-Of.text)) c.in-Of.is refl (c.in_ok-text.ensures.leads (of row)) }

pub returns-in-Stops : goal.returns-in-Stops
returns-in-Stops g c = record { leads = λ row. read-ends (behind_reading (of row)) (behind_reading row) (reading.Stops c.in-Stops.went) c.in-Stops.is refl (c.in_ok-text.ensures.leads (of row)) }

pub returns-in_err-text : goal.returns-in_err-text
returns-in_err-text g c = record { leads = λ row. read-fails c.from_residual.result c.from_residual.ensures.0 (c.in_err-text.ensures.leads (of row)) }
