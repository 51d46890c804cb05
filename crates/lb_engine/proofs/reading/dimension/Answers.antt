use Rattle.std.proofs.Common.{refl, rules}
use Rattle.lb_model_expansion.specs.Expansion.{number_found}
use Rattle.lb_engine.specs.Reads.{behind_reading}
use Rattle.lb_engine.proofs.RowLemmas.{read-ends, read-fails}
use Rattle.lb_engine.proofs.reading.dimension.Goals as goal

pub returns-in_err-found : goal.returns-in_err-found
returns-in_err-found g c = record { leads = λ row. read-fails c.from_residual.result (search rules) (c.in_err-found.ensures.leads (λ found v. row (number_found found) v)) }

pub returns-in-Of : goal.returns-in-Of
returns-in-Of g c =
    record {
      leads =
          λ row.
          read-ends (behind_reading (λ found v. row (number_found found) v)) (behind_reading row) _ c.in-Of.is (search rules) (c.in_ok-found.ensures.leads (λ found v. row (number_found found) v));
    }

pub returns-in-Stops : goal.returns-in-Stops
returns-in-Stops g c =
    record {
      leads = λ row. read-ends (behind_reading (λ found v. row (number_found found) v)) (behind_reading row) _ c.in-Stops.is refl (c.in_ok-found.ensures.leads (λ found v. row (number_found found) v));
    }
