use Rattle.std.proofs.Common.{◌∙◌, FitsSigned, ap, refl, rules, sym, w32}
use Rattle.std.proofs.lemmas.Int.{to_z-of_z}
use Rattle.lb_model_expansion.specs.Expansion.{number_found}
use Rattle.lb_engine.proofs.RowLemmas.{read-ends, read-fails}
use Rattle.lb_engine.specs.Reads.{behind_reading}
use Rattle.lb_engine.specs.declared.reading.Reading.TheVariants as reading
use Rattle.lb_engine.proofs.quantities.dimension_in.Goals as goal

pub returns-in-Of : goal.returns-in-Of
returns-in-Of g c =
    let n = c.number_found.result in
    let fits : FitsSigned w32 n = search rules in
    record {
      leads = λ row.
          read-ends (behind_reading (λ found. row (number_found found))) (behind_reading row) _ c.in-Of.is (ap row (sym c.number_found.ensures ∙ sym (to_z-of_z w32 n fits)))
          (c.in_ok-found.ensures.leads (λ found. row (number_found found)));
    }

pub returns-in-Stops : goal.returns-in-Stops
returns-in-Stops g c =
    record {
      leads = λ row.
          read-ends (behind_reading (λ found. row (number_found found))) (behind_reading row) (reading.Stops c.in-Stops.went) c.in-Stops.is refl (c.in_ok-found.ensures.leads (λ found. row (number_found found)));
    }

pub returns-in_err-found : goal.returns-in_err-found
returns-in_err-found g c = record { leads = λ row. read-fails c.from_residual.result c.from_residual.ensures.0 (c.in_err-found.ensures.leads (λ found. row (number_found found))) }
