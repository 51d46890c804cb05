use Rattle.std.proofs.Common.{refl}
use Rattle.lb_model_engine.specs.Counting.{effected_alone, setcounter}
use Rattle.lb_model_engine.specs.Reads.{argument, number_in}
use Rattle.lb_model_counters.specs.Counters.{set_counter}
use Rattle.lb_model_nest.specs.declared.turn.Went.TheVariants.{On}
use Rattle.lb_model_nest.specs.Wholes.{executed}
use Rattle.lb_engine.specs.Reads.{behind_reading}
use Rattle.lb_engine.proofs.JoinLemmas.{read-failed}
use Rattle.lb_engine.proofs.RowLemmas.{read-ends, read-then}
use Rattle.lb_engine.proofs.counters.setcounter.Goals as goal

pub set_to-requires : goal.set_to-requires
set_to-requires g c = record { holds = (c.in_ok-name.ensures.leads (λ x v. executed On v)).keeps }

pub returns-in-Of : goal.returns-in-Of
unfolding setcounter
returns-in-Of g c = record { goes = read-then (behind_reading (λ name v. argument (λ toks u. number_in toks (λ n y. effected_alone (set_counter name n) y) u) v)) c.set_to.result c.in-Of.is (c.in_ok-name.ensures.leads (λ name v. argument (λ toks u. number_in toks (λ n y. effected_alone (set_counter name n) y) u) v)) c.set_to.ensures.goes }

pub returns-in-Stops : goal.returns-in-Stops
unfolding setcounter
returns-in-Stops g c = record { goes = read-ends (behind_reading (λ name v. argument (λ toks u. number_in toks (λ n y. effected_alone (set_counter name n) y) u) v)) executed c.in-Stops.went c.in-Stops.is refl (c.in_ok-name.ensures.leads (λ name v. argument (λ toks u. number_in toks (λ n y. effected_alone (set_counter name n) y) u) v)) }

pub returns-in_err-name : goal.returns-in_err-name
unfolding setcounter
returns-in_err-name g c = record { goes = read-failed c.from_residual.result c.from_residual.ensures.0 (c.in_err-name.ensures.leads (λ name v. argument (λ toks u. number_in toks (λ n y. effected_alone (set_counter name n) y) u) v)) }
