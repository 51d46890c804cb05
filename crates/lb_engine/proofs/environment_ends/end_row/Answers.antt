use Rattle.std.proofs.Common.{refl}
use Rattle.lb_model_nest.specs.declared.turn.Went.TheVariants.{On}
use Rattle.lb_model_nest.specs.Wholes.{executed}
use Rattle.lb_engine.specs.Reads.{behind_reading}
use Rattle.lb_engine.proofs.JoinLemmas.{read-failed}
use Rattle.lb_engine.proofs.RowLemmas.{read-ends, read-then}
use Rattle.lb_model_engine.specs.Environments.{end_named, end_row}
use Rattle.lb_engine.proofs.environment_ends.end_row.Goals as goal

pub end-requires : goal.end-requires
end-requires g c = record { holds = (c.in_ok-name.ensures.leads (λ x v. executed On v)).keeps }

pub returns-in-Of : goal.returns-in-Of
unfolding end_row
returns-in-Of g c = record { goes = read-then (behind_reading (end_named)) c.end.result c.in-Of.is (c.in_ok-name.ensures.leads (end_named)) c.end.ensures.goes }

pub returns-in-Stops : goal.returns-in-Stops
unfolding end_row
returns-in-Stops g c = record { goes = read-ends (behind_reading (end_named)) executed c.in-Stops.went c.in-Stops.is refl (c.in_ok-name.ensures.leads (end_named)) }

pub returns-in_err-name : goal.returns-in_err-name
unfolding end_row
returns-in_err-name g c = record { goes = read-failed c.from_residual.result c.from_residual.ensures.0 (c.in_err-name.ensures.leads (end_named)) }
