use Rattle.std.proofs.Common.{ap, refl, sym}
use Rattle.lb_engine.proofs.LookLemmas.{read-drops}
use Rattle.lb_engine.proofs.RowLemmas.{read-ends, read-fails}
use Rattle.lb_engine.specs.Reads.{behind_reading}
use Rattle.lb_engine.specs.declared.reading.Reading.TheVariants as reading
use Rattle.lb_engine.proofs.registers.shared_rest.Goals as goal

pub returns-in_ok-shared-in-Of : goal.returns-in_ok-shared-in-Of
returns-in_ok-shared-in-Of g c = record { leads = λ row. read-ends (behind_reading row) (behind_reading row) (reading.Of c.in_ok-shared-in-Of.shared) c.in-Of.is (ap row (sym c.in_ok-shared-in-Of.ensures)) (c.in_ok-toks.ensures.leads row) }

pub returns-in-Stops : goal.returns-in-Stops
returns-in-Stops g c = record { leads = λ row. read-ends (behind_reading row) (behind_reading row) (reading.Stops c.in-Stops.went) c.in-Stops.is refl (c.in_ok-toks.ensures.leads row) }

pub returns-in_err-shared-in-Of : goal.returns-in_err-shared-in-Of
returns-in_err-shared-in-Of g c =
    let e = c.from_residual-in_err-shared-in-Of in
    record { leads = λ row. read-drops e.result e.ensures.0 (c.in_ok-toks.ensures.leads row) }

pub returns-in_err-toks : goal.returns-in_err-toks
returns-in_err-toks g c = record { leads = λ row. read-fails c.from_residual.result c.from_residual.ensures.0 (c.in_err-toks.ensures.leads row) }
