use Rattle.std.proofs.Common.{refl}
use Rattle.std.specs.Prelude.{Ok, Err}
use Rattle.lb_model_grammar.specs.declared.given.Scanned.{Scanned}
use Rattle.lb_model_engine.specs.Reads.{closing}
use Rattle.lb_model_nest.specs.declared.turn.Went.TheVariants.{On}
use Rattle.lb_model_nest.specs.Wholes.{Executed, Whole, executed}
use Rattle.lb_engine.proofs.RowLemmas.{read-ends, read-fails, read-then}
use Rattle.lb_engine.specs.Reads.{behind_reading}
use Rattle.lb_engine.specs.declared.reading.Reading.TheVariants as reading
use Rattle.lb_engine.proofs.quantities.scan_closed.Goals as goal

-- only spaces stand behind it
abbrev behind : (Scanned → Whole → Executed) → Scanned → Whole → Executed
behind row found v = closing (row found) v

pub closing-requires : goal.closing-requires
closing-requires g c = record { holds = (c.in_ok-found.ensures.leads (λ found. executed On)).keeps }

pub returns-in-Of-2 : goal.returns-in-Of-2
returns-in-Of-2 g c =
    let found = c.in-Of.found in
    record {
      leads = λ row.
          read-then (behind_reading (behind row)) (Ok (reading.Of found)) c.in-Of.is (c.in_ok-found.ensures.leads (behind row))
          (read-ends (behind_reading (λ u. row found)) (behind_reading row) (reading.Of found) c.in-Of-2.is refl (c.in_ok-closing-in-Of.ensures.leads (row found)));
    }

pub returns-in-Stops-2 : goal.returns-in-Stops-2
returns-in-Stops-2 g c =
    let found = c.in-Of.found in
    record {
      leads = λ row.
          read-then (behind_reading (behind row)) (Ok (reading.Stops c.in-Stops-2.went)) c.in-Of.is (c.in_ok-found.ensures.leads (behind row))
          (read-ends (behind_reading (λ u. row found)) (behind_reading row) (reading.Stops c.in-Stops-2.went) c.in-Stops-2.is refl (c.in_ok-closing-in-Of.ensures.leads (row found)));
    }

pub returns-in_err-closing-in-Of : goal.returns-in_err-closing-in-Of
returns-in_err-closing-in-Of g c =
    let e = c.from_residual-in_err-closing-in-Of in
    let found = c.in-Of.found in
    record {
      leads = λ row.
          read-fails e.result e.ensures.0
          (read-then (behind_reading (behind row)) (Err _) c.in-Of.is (c.in_ok-found.ensures.leads (behind row)) (c.in_err-closing-in-Of.ensures.leads (row found)));
    }

pub returns-in-Stops : goal.returns-in-Stops
returns-in-Stops g c =
    record {
      leads = λ row.
          read-ends (behind_reading (behind row)) (behind_reading row) (reading.Stops c.in-Stops.went) c.in-Stops.is refl (c.in_ok-found.ensures.leads (behind row));
    }

pub returns-in_err-found : goal.returns-in_err-found
returns-in_err-found g c = record { leads = λ row. read-fails c.from_residual.result c.from_residual.ensures.0 (c.in_err-found.ensures.leads (behind row)) }
