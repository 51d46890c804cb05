use Rattle.std.proofs.Common.{refl}
use Rattle.lb_model_engine.specs.Reads.{control_to}
use Rattle.lb_engine.proofs.LookLemmas.{if-fails}
use Rattle.lb_engine.proofs.RowLemmas.{read-ends, read-fails}
use Rattle.lb_engine.specs.Names.{IsName}
use Rattle.lb_engine.specs.Reads.{behind_reading}
use Rattle.lb_engine.specs.declared.reading.Reading.TheVariants as reading
use Rattle.lb_engine.proofs.unexpanded.control.Goals as goal

pub returns-in-Of : goal.returns-in-Of
returns-in-Of g c =
    record {
      name = c.control_of.ensures.name;
      leads = λ row.
          read-ends (behind_reading (λ tok v. control_to tok row v)) (behind_reading row) c.control_of.result c.in-Of.is (λ i w. c.control_of.ensures.control row w i)
          (c.in_ok-tok.ensures.leads (λ tok v. control_to tok row v));
    }

pub returns-in-Stops : goal.returns-in-Stops
returns-in-Stops g c =
    record {
      name = tt;
      leads = λ row.
          read-ends (behind_reading (λ tok v. control_to tok row v)) (behind_reading row) (reading.Stops c.in-Stops.went) c.in-Stops.is refl
          (c.in_ok-tok.ensures.leads (λ tok v. control_to tok row v));
    }

pub returns-in_err-tok : goal.returns-in_err-tok
returns-in_err-tok g c = record { name = if-fails IsName c.from_residual.result c.from_residual.ensures.0; leads = λ row. read-fails c.from_residual.result c.from_residual.ensures.0 (c.in_err-tok.ensures.leads (λ tok v. control_to tok row v)) }
