use Rattle.lb_base.proofs.ReadingBack.{fraction_back, All-fraction_digits, some_digits, few_digits, no_fewer_digits, none_nearer}
use Rattle.lb_base.proofs.laws.fraction_reads_back.Goals as goal

pub returns-clause-value : goal.returns-clause-value
returns-clause-value c = fraction_back

pub returns-clause-digits : goal.returns-clause-digits
returns-clause-digits c = All-fraction_digits

pub returns-clause-at_least_one : goal.returns-clause-at_least_one
returns-clause-at_least_one c = some_digits

pub returns-clause-at_most_five : goal.returns-clause-at_most_five
returns-clause-at_most_five c = few_digits

pub returns-clause-shortest : goal.returns-clause-shortest
returns-clause-shortest c = no_fewer_digits

pub returns-clause-nearest : goal.returns-clause-nearest
returns-clause-nearest c = none_nearer
