use Rattle.lb_values.specs.declared.cell.Cell.TheVariants.{Resets}
use Rattle.lb_model.specs.Quantities.{counter_in}
use Rattle.lb_model_counters.specs.Counters.{names_in, step_counter}
use Rattle.lb_model_counters.proofs.Changed.{step-others, step-reset, step-sum}
use Rattle.lb_model_counters.proofs.laws.steps_reset_their_own_list.Goals as goal

pub returns-clause-reset : goal.returns-clause-reset
unfolding step_counter
returns-clause-reset c = λ name other by w k h i. step-reset name by (names_in w k.now (Resets name)) (counter_in w k.now name) k other h i

pub returns-clause-others : goal.returns-clause-others
unfolding step_counter
returns-clause-others c = λ name by resets d h w k a o. step-others name by resets (names_in w k.now (Resets name)) (counter_in w k.now name) k d h o

pub returns-clause-sum : goal.returns-clause-sum
unfolding step_counter
returns-clause-sum c = λ name n by resets w k h e o. step-sum name n by resets (names_in w k.now (Resets name)) (counter_in w k.now name) k e h o
