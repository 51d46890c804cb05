use Rattle.std.proofs.Common.{refl}
use Rattle.lb_model_engine.specs.Counting.{effected, label_by, refstepcounter}
use Rattle.lb_model_counters.specs.Counters.{step_counter}
use Rattle.std.proofs.Common.{pos, true}
use Rattle.lb_model_nest.specs.declared.turn.Went.TheVariants.{On}
use Rattle.lb_model_nest.specs.Wholes.{executed}
use Rattle.lb_engine.specs.Reads.{behind_reading}
use Rattle.lb_engine.proofs.JoinLemmas.{read-failed}
use Rattle.lb_engine.proofs.RowLemmas.{read-ends, read-then}
use Rattle.lb_engine.proofs.ref_steps.refstepcounter.Goals as goal

pub step_and_label-requires : goal.step_and_label-requires
step_and_label-requires g c = record { holds = (c.in_ok-name.ensures.leads (λ x v. executed On v)).keeps }

pub returns-in-Of : goal.returns-in-Of
unfolding refstepcounter
returns-in-Of g c = record { goes = read-then (behind_reading (λ name v. effected (step_counter name (pos 1) true) (λ done u. label_by name u) v)) c.step_and_label.result c.in-Of.is (c.in_ok-name.ensures.leads (λ name v. effected (step_counter name (pos 1) true) (λ done u. label_by name u) v)) c.step_and_label.ensures.goes }

pub returns-in-Stops : goal.returns-in-Stops
unfolding refstepcounter
returns-in-Stops g c = record { goes = read-ends (behind_reading (λ name v. effected (step_counter name (pos 1) true) (λ done u. label_by name u) v)) executed c.in-Stops.went c.in-Stops.is refl (c.in_ok-name.ensures.leads (λ name v. effected (step_counter name (pos 1) true) (λ done u. label_by name u) v)) }

pub returns-in_err-name : goal.returns-in_err-name
unfolding refstepcounter
returns-in_err-name g c = record { goes = read-failed c.from_residual.result c.from_residual.ensures.0 (c.in_err-name.ensures.leads (λ name v. effected (step_counter name (pos 1) true) (λ done u. label_by name u) v)) }
