use Rattle.std.proofs.Common.{◌≡◌, of_z, rules, to_z, w32}
use Rattle.lb_engine.proofs.JoinLemmas.{leads-same}
use Rattle.std.proofs.Common.{refl}
use Rattle.lb_model_engine.specs.Counting.{effected_alone}
use Rattle.lb_model_counters.specs.Counters.{step_counter}
use Rattle.std.proofs.Common.{false}
use Rattle.lb_model_nest.specs.declared.turn.Went.TheVariants.{On}
use Rattle.lb_model_nest.specs.Wholes.{executed}
use Rattle.lb_engine.specs.Reads.{behind_reading}
use Rattle.lb_engine.proofs.JoinLemmas.{read-failed}
use Rattle.lb_engine.proofs.RowLemmas.{read-ends, read-then}
use Rattle.lb_engine.proofs.counters.add_to.Goals as goal

pub step-requires : goal.step-requires
step-requires g c = record { holds = (c.in_ok-number.ensures.leads (λ x v. executed On v)).keeps }

pub returns-in-Of : goal.returns-in-Of
returns-in-Of g c =
    let same : to_z w32 (of_z w32 c.in-Of.number) ≡ c.in-Of.number = search rules in
    record { goes = read-then (behind_reading (λ n v. effected_alone (step_counter c.args.name.now n false) v)) c.step.result c.in-Of.is (c.in_ok-number.ensures.leads (λ n v. effected_alone (step_counter c.args.name.now n false) v)) (leads-same (λ n. effected_alone (step_counter c.args.name.now n false)) same c.step.ensures.goes) }

pub returns-in-Stops : goal.returns-in-Stops
returns-in-Stops g c = record { goes = read-ends (behind_reading (λ n v. effected_alone (step_counter c.args.name.now n false) v)) executed c.in-Stops.went c.in-Stops.is refl (c.in_ok-number.ensures.leads (λ n v. effected_alone (step_counter c.args.name.now n false) v)) }

pub returns-in_err-number : goal.returns-in_err-number
returns-in_err-number g c = record { goes = read-failed c.from_residual.result c.from_residual.ensures.0 (c.in_err-number.ensures.leads (λ n v. effected_alone (step_counter c.args.name.now n false) v)) }
