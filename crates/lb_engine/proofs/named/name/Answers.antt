use Rattle.std.proofs.Common.{◌≡◌, ap, refl, rules}
use Rattle.lb_engine.specs.Reads.{behind_reading}
use Rattle.lb_engine.specs.declared.reading.Reading.TheVariants as reading
use Rattle.lb_engine.proofs.JoinLemmas.{read-failed}
use Rattle.lb_engine.proofs.RowLemmas.{read-ends}
use Rattle.lb_engine.proofs.named.name.Goals as goal

pub returns-in_ok-name-in-Of : goal.returns-in_ok-name-in-Of
returns-in_ok-name-in-Of g c =
    let same : c.in-Of.text ≡ c.in_ok-name-in-Of.name = search rules in
    record {
      leads =
          λ row.
          read-ends (behind_reading (row)) (behind_reading row) (reading.Of c.in_ok-name-in-Of.name) c.in-Of.is
          (ap (λ t. behind_reading row (reading.Of t)) same) (c.in_ok-text.ensures.leads (row));
    }

pub returns-in-Stops : goal.returns-in-Stops
returns-in-Stops g c =
    record { leads = λ row. read-ends (behind_reading (row)) (behind_reading row) (reading.Stops c.in-Stops.went) c.in-Stops.is refl (c.in_ok-text.ensures.leads (row)) }

pub returns-in_err-text : goal.returns-in_err-text
returns-in_err-text g c = record { leads = λ row. read-failed c.from_residual.result c.from_residual.ensures.0 (c.in_err-text.ensures.leads (row)) }

pub returns-in_err-name-in-Of : goal.returns-in_err-name-in-Of
returns-in_err-name-in-Of g c =
    record { leads = λ row. read-failed c.from_residual-in_err-name-in-Of.result c.from_residual-in_err-name-in-Of.ensures.0 (c.in_ok-text.ensures.leads (row)) }
