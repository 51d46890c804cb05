use Rattle.std.proofs.Common.{refl}
use Rattle.lb_model_engine.specs.Texts.{typed_out}
use Rattle.lb_model_nest.specs.declared.turn.Went.TheVariants.{On}
use Rattle.lb_model_nest.specs.Wholes.{executed}
use Rattle.lb_engine.specs.Reads.{behind_reading}
use Rattle.lb_engine.proofs.JoinLemmas.{read-failed}
use Rattle.lb_engine.proofs.RowLemmas.{read-ends, read-then}
use Rattle.lb_engine.proofs.logs.type_out.Goals as goal

pub log_event-requires : goal.log_event-requires
log_event-requires g c = record { holds = (c.in_ok-toks.ensures.leads (λ x v. executed On v)).keeps }

pub returns-in-Of : goal.returns-in-Of
returns-in-Of g c = record { goes = read-then (behind_reading (typed_out)) c.log_event.result c.in-Of.is (c.in_ok-toks.ensures.leads (typed_out)) c.log_event.ensures.goes }

pub returns-in-Stops : goal.returns-in-Stops
returns-in-Stops g c = record { goes = read-ends (behind_reading (typed_out)) executed c.in-Stops.went c.in-Stops.is refl (c.in_ok-toks.ensures.leads (typed_out)) }

pub returns-in_err-toks : goal.returns-in_err-toks
returns-in_err-toks g c = record { goes = read-failed c.from_residual.result c.from_residual.ensures.0 (c.in_err-toks.ensures.leads (typed_out)) }
