use Rattle.lb_model.specs.Quantities.{counter_in}
use Rattle.lb_model_counters.specs.Counters.{set_counter}
use Rattle.lb_model_counters.proofs.Changed.{set-number, set-others}
use Rattle.lb_model_counters.proofs.laws.setting_changes_one_counter.Goals as goal

pub returns-clause-number : goal.returns-clause-number
unfolding set_counter
returns-clause-number c = λ name n w k h. set-number name n (counter_in w k.now name) k h

pub returns-clause-others : goal.returns-clause-others
unfolding set_counter
returns-clause-others c = λ name n d h w k a. set-others name n (counter_in w k.now name) k d h
