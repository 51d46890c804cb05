use Rattle.std.proofs.Common.{◌∙◌, FitsSigned, refl, rules, sym, w32}
use Rattle.std.proofs.lemmas.Int.{to_z-of_z}
use Rattle.lb_model_engine.specs.Reads.{code_to}
use Rattle.lb_model_expansion.specs.Expansion.{picks}
use Rattle.lb_engine.proofs.RowLemmas.{read-ends, read-fails}
use Rattle.lb_engine.specs.Reads.{behind_reading}
use Rattle.lb_engine.specs.declared.reading.Reading.TheVariants as reading
use Rattle.lb_engine.proofs.quantities.code.Goals as goal

pub returns-in-Of : goal.returns-in-Of
returns-in-Of g c =
    let fits : FitsSigned w32 c.in-Of.number = search rules in
    record {
      leads = λ row.
          read-ends (behind_reading (λ n v. code_to (picks n) row v)) (behind_reading row) c.code_of.result c.in-Of.is (
          (λ i w. code_to (picks (sym (to_z-of_z w32 c.in-Of.number fits) i)) row w) ∙ (λ i w. c.code_of.ensures.code row w i)
          )
          (c.in_ok-number.ensures.leads (λ n v. code_to (picks n) row v));
    }

pub returns-in-Stops : goal.returns-in-Stops
returns-in-Stops g c =
    record {
      leads = λ row.
          read-ends (behind_reading (λ n v. code_to (picks n) row v)) (behind_reading row) (reading.Stops c.in-Stops.went) c.in-Stops.is refl (c.in_ok-number.ensures.leads (λ n v. code_to (picks n) row v));
    }

pub returns-in_err-number : goal.returns-in_err-number
returns-in_err-number g c = record { leads = λ row. read-fails c.from_residual.result c.from_residual.ensures.0 (c.in_err-number.ensures.leads (λ n v. code_to (picks n) row v)) }
