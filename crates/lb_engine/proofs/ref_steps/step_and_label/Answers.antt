use Rattle.std.proofs.Common.{refl}
use Rattle.lb_model_engine.specs.Counting.{label_by}
use Rattle.lb_model_nest.specs.declared.turn.Went.TheVariants.{On}
use Rattle.lb_model_nest.specs.Wholes.{executed}
use Rattle.lb_engine.specs.Reads.{behind_reading}
use Rattle.lb_engine.proofs.JoinLemmas.{read-failed}
use Rattle.lb_engine.proofs.RowLemmas.{read-ends, read-then}
use Rattle.lb_engine.proofs.ref_steps.step_and_label.Goals as goal

pub label_by-requires : goal.label_by-requires
label_by-requires g c = record { holds = (c.in_ok-_done.ensures.leads (λ x v. executed On v)).keeps }

pub returns-in-Of : goal.returns-in-Of
returns-in-Of g c = record { goes = read-then (behind_reading (λ done u. label_by c.args.name.now u)) c.label_by.result c.in-Of.is (c.in_ok-_done.ensures.leads (λ done u. label_by c.args.name.now u)) c.label_by.ensures.goes }

pub returns-in-Stops : goal.returns-in-Stops
returns-in-Stops g c = record { goes = read-ends (behind_reading (λ done u. label_by c.args.name.now u)) executed c.in-Stops.went c.in-Stops.is refl (c.in_ok-_done.ensures.leads (λ done u. label_by c.args.name.now u)) }

pub returns-in_err-_done : goal.returns-in_err-_done
returns-in_err-_done g c = record { goes = read-failed c.from_residual.result c.from_residual.ensures.0 (c.in_err-_done.ensures.leads (λ done u. label_by c.args.name.now u)) }
