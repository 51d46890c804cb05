use Rattle.std.proofs.Common.{refl}
use Rattle.lb_model_engine.specs.Counting.{effected, label}
use Rattle.lb_model_counters.specs.Labels.{label_now}
use Rattle.lb_model_nest.specs.Pages.{added}
use Rattle.lb_model_nest.specs.declared.turn.Went.TheVariants.{On}
use Rattle.lb_model_nest.specs.Wholes.{executed}
use Rattle.lb_engine.specs.Reads.{behind_reading}
use Rattle.lb_engine.proofs.JoinLemmas.{read-failed}
use Rattle.lb_engine.proofs.RowLemmas.{read-ends, read-then}
use Rattle.lb_engine.proofs.labels.label.Goals as goal

pub add_label-requires : goal.add_label-requires
add_label-requires g c = record { holds = (c.in_ok-key.ensures.leads (λ x v. executed On v)).keeps }

pub returns-in-Of : goal.returns-in-Of
unfolding label
returns-in-Of g c = record { goes = read-then (behind_reading (λ key v. effected (label_now key) (λ node u. added node u) v)) c.add_label.result c.in-Of.is (c.in_ok-key.ensures.leads (λ key v. effected (label_now key) (λ node u. added node u) v)) c.add_label.ensures.goes }

pub returns-in-Stops : goal.returns-in-Stops
unfolding label
returns-in-Stops g c = record { goes = read-ends (behind_reading (λ key v. effected (label_now key) (λ node u. added node u) v)) executed c.in-Stops.went c.in-Stops.is refl (c.in_ok-key.ensures.leads (λ key v. effected (label_now key) (λ node u. added node u) v)) }

pub returns-in_err-key : goal.returns-in_err-key
unfolding label
returns-in_err-key g c = record { goes = read-failed c.from_residual.result c.from_residual.ensures.0 (c.in_err-key.ensures.leads (λ key v. effected (label_now key) (λ node u. added node u) v)) }
