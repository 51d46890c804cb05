use Rattle.std.proofs.Common.{refl}
use Rattle.lb_model_engine.specs.Texts.{expanded_text, typed_out, typeout}
use Rattle.lb_model_nest.specs.declared.turn.Went.TheVariants.{On}
use Rattle.lb_model_nest.specs.Wholes.{executed}
use Rattle.lb_engine.specs.Reads.{behind_reading}
use Rattle.lb_engine.proofs.JoinLemmas.{read-failed}
use Rattle.lb_engine.proofs.RowLemmas.{read-ends, read-then}
use Rattle.lb_engine.proofs.logs.typeout.Goals as goal

pub type_out-requires : goal.type_out-requires
type_out-requires g c = record { holds = (c.in_ok-toks.ensures.leads (λ x v. executed On v)).keeps }

pub returns-in-Of : goal.returns-in-Of
unfolding typeout
returns-in-Of g c = record { goes = read-then (behind_reading (λ toks v. expanded_text toks typed_out v)) c.type_out.result c.in-Of.is (c.in_ok-toks.ensures.leads (λ toks v. expanded_text toks typed_out v)) c.type_out.ensures.goes }

pub returns-in-Stops : goal.returns-in-Stops
unfolding typeout
returns-in-Stops g c = record { goes = read-ends (behind_reading (λ toks v. expanded_text toks typed_out v)) executed c.in-Stops.went c.in-Stops.is refl (c.in_ok-toks.ensures.leads (λ toks v. expanded_text toks typed_out v)) }

pub returns-in_err-toks : goal.returns-in_err-toks
unfolding typeout
returns-in_err-toks g c = record { goes = read-failed c.from_residual.result c.from_residual.ensures.0 (c.in_err-toks.ensures.leads (λ toks v. expanded_text toks typed_out v)) }
