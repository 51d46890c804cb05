use Rattle.std.proofs.Common.{refl}
use Rattle.lb_model_engine.specs.Reads.{closing, scanning}
use Rattle.lb_model_grammar.specs.declared.given.ScanKind.{ScanKind}
use Rattle.lb_model_grammar.specs.declared.given.Scanned.{Scanned}
use Rattle.lb_model_nest.specs.declared.turn.Went.TheVariants.{On}
use Rattle.lb_model_nest.specs.Wholes.{Executed, Whole, executed}
use Rattle.lb_engine.proofs.RowLemmas.{read-ends, read-then}
use Rattle.lb_engine.specs.Reads.{behind_reading}
use Rattle.lb_engine.specs.declared.reading.Reading.TheVariants as reading
use Rattle.lb_engine.proofs.quantities.scan_in.Goals as goal

-- the scan behind the tokens
abbrev scan : ScanKind → (Scanned → Whole → Executed) → Whole → Executed
scan kind row w = scanning kind (λ found v. closing (row found) v) w

pub scan_closed-requires : goal.scan_closed-requires
scan_closed-requires g c = record { holds = (c.in_ok-put_closed.ensures.leads (executed On)).keeps }

pub returns-in-Of : goal.returns-in-Of
returns-in-Of g c =
    record {
      leads = λ row.
          read-then (behind_reading (λ u. scan c.args.kind row)) c.scan_closed.result c.in-Of.is (c.in_ok-put_closed.ensures.leads (scan c.args.kind row)) (c.scan_closed.ensures.leads row);
    }

pub returns-in-Stops : goal.returns-in-Stops
returns-in-Stops g c =
    record {
      leads = λ row.
          read-ends (behind_reading (λ u. scan c.args.kind row)) (behind_reading row) (reading.Stops c.in-Stops.went) c.in-Stops.is refl (c.in_ok-put_closed.ensures.leads (scan c.args.kind row));
    }
