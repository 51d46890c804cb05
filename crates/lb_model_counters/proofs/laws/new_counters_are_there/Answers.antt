use Rattle.lb_model.specs.Quantities.{counter_in}
use Rattle.lb_model_counters.specs.Counters.{new_counter}
use Rattle.lb_model_counters.proofs.Changed.{new-checkpoint, new-number, new-reset}
use Rattle.lb_model_counters.proofs.laws.new_counters_are_there.Goals as goal

pub returns-clause-number : goal.returns-clause-number
unfolding new_counter
returns-clause-number c = λ name within w k h. new-number name within w k.now (counter_in w k.now name) k h

pub returns-clause-checkpoint : goal.returns-clause-checkpoint
unfolding new_counter
returns-clause-checkpoint c = λ name within w k h. new-checkpoint name within w k.now (counter_in w k.now name) k h

pub returns-clause-reset : goal.returns-clause-reset
unfolding new_counter
returns-clause-reset c = λ name other w k h. new-reset name other w k.now (counter_in w k.now name) k h
