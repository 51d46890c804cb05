use Rattle.lb_base.proofs.BadnessOrder.{badness-at_most, badness-all_of_it, badness-grows, badness-shrinks}
use Rattle.lb_base.proofs.laws.badness_order.Goals as goal

pub returns-clause-at_most : goal.returns-clause-at_most
returns-clause-at_most c = badness-at_most

pub returns-clause-all_of_it : goal.returns-clause-all_of_it
returns-clause-all_of_it c = badness-all_of_it

pub returns-clause-grows : goal.returns-clause-grows
returns-clause-grows c = badness-grows

pub returns-clause-shrinks : goal.returns-clause-shrinks
returns-clause-shrinks c = badness-shrinks
