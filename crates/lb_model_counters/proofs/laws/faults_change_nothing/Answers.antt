use Rattle.lb_values.specs.declared.cell.Cell.TheVariants.{Resets}
use Rattle.lb_model.specs.Quantities.{counter_in}
use Rattle.lb_model_counters.specs.Counters.{names_in, new_counter, print_counter, set_counter, step_counter}
use Rattle.lb_model_counters.proofs.Changed.{new-fault, print-changes, set-fault, step-fault}
use Rattle.lb_model_counters.proofs.laws.faults_change_nothing.Goals as goal

pub returns-clause-new : goal.returns-clause-new
unfolding new_counter
returns-clause-new c = λ name within w s k h. new-fault name within w s (counter_in w s name) k h

pub returns-clause-set : goal.returns-clause-set
unfolding set_counter
returns-clause-set c = λ name n w s k h. set-fault name n (counter_in w s name) k h

pub returns-clause-step : goal.returns-clause-step
unfolding step_counter
returns-clause-step c = λ name by resets w s k h. step-fault name by resets (names_in w s (Resets name)) (counter_in w s name) k h

pub returns-clause-print : goal.returns-clause-print
unfolding print_counter
returns-clause-print c = λ name form w s. print-changes name form (counter_in w s name)
