use Rattle.lb_base.specs.declared.fault.Kind.TheVariants.{Runaway}
use Rattle.std.proofs.Common.{refl}
use Rattle.lb_model_nest.specs.Wholes.{stop}
use Rattle.lb_engine.proofs.RowLemmas.{read-ends, read-fails}
use Rattle.lb_engine.specs.Reads.{behind_next, behind_reading}
use Rattle.lb_engine.proofs.spaces.past_spaces.Goals as goal

pub returns : goal.returns
returns g c =
    record {
      leads = λ row.
          read-ends (behind_next (stop Runaway) row) (behind_reading (λ t. row t.0 t.1)) c.within_piece.result refl (λ i w. c.within_piece.ensures row w i)
          (c.in_ok-next.ensures.leads (stop Runaway) row);
    }

pub returns-in_err-next : goal.returns-in_err-next
returns-in_err-next g c = record { leads = λ row. read-fails c.from_residual.result c.from_residual.ensures.0 (c.in_err-next.ensures.leads (stop Runaway) row) }
