use Rattle.std.proofs.Common.{ap, refl, sym}
use Rattle.lb_model_engine.specs.Reads.{glue_found}
use Rattle.lb_engine.proofs.RowLemmas.{read-ends, read-fails}
use Rattle.lb_engine.specs.Reads.{behind_reading}
use Rattle.lb_engine.specs.declared.reading.Reading.TheVariants as reading
use Rattle.lb_engine.proofs.quantities.glue_in.Goals as goal

pub returns-in-Of : goal.returns-in-Of
returns-in-Of g c =
    record {
      leads = λ row.
          read-ends (behind_reading (λ found. row (glue_found found))) (behind_reading row) (reading.Of c.glue_found.result) c.in-Of.is (ap row (sym c.glue_found.ensures))
          (c.in_ok-found.ensures.leads (λ found. row (glue_found found)));
    }

pub returns-in-Stops : goal.returns-in-Stops
returns-in-Stops g c =
    record {
      leads = λ row.
          read-ends (behind_reading (λ found. row (glue_found found))) (behind_reading row) (reading.Stops c.in-Stops.went) c.in-Stops.is refl (c.in_ok-found.ensures.leads (λ found. row (glue_found found)));
    }

pub returns-in_err-found : goal.returns-in_err-found
returns-in_err-found g c = record { leads = λ row. read-fails c.from_residual.result c.from_residual.ensures.0 (c.in_err-found.ensures.leads (λ found. row (glue_found found))) }
