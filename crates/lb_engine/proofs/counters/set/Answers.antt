use Rattle.std.proofs.Common.{◌≡◌, of_z, refl, rules, to_z, w32}
use Rattle.lb_model_engine.specs.Counting.{effected_alone}
use Rattle.lb_model_counters.specs.Counters.{set_counter}
use Rattle.lb_model_nest.specs.declared.turn.Went.TheVariants.{On}
use Rattle.lb_model_nest.specs.Wholes.{executed, on}
use Rattle.lb_engine.specs.Reads.{behind_reading}
use Rattle.lb_engine.proofs.JoinLemmas.{leads-same, read-failed}
use Rattle.lb_engine.proofs.RowLemmas.{read-ends}
use Rattle.lb_engine.proofs.counters.set.Goals as goal

pub returns-in-Of : goal.returns-in-Of
returns-in-Of g c =
    let same : to_z w32 (of_z w32 c.args.number) ≡ c.args.number = search rules in
    record { goes = leads-same (λ n. effected_alone (set_counter c.args.name.now n)) same (read-ends (behind_reading (λ done v. on v)) executed On c.in-Of.is refl (c.in_ok-_done.ensures.leads (λ done v. on v))) }

pub returns-in-Stops : goal.returns-in-Stops
returns-in-Stops g c =
    let same : to_z w32 (of_z w32 c.args.number) ≡ c.args.number = search rules in
    record { goes = leads-same (λ n. effected_alone (set_counter c.args.name.now n)) same (read-ends (behind_reading (λ done v. on v)) executed c.in-Stops.went c.in-Stops.is refl (c.in_ok-_done.ensures.leads (λ done v. on v))) }

pub returns-in_err-_done : goal.returns-in_err-_done
returns-in_err-_done g c = record { goes = read-failed c.from_residual.result c.from_residual.ensures.0 (c.in_err-_done.ensures.leads (λ done v. on v)) }
