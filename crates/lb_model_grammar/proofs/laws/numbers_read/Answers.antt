use Rattle.std.proofs.Common.{false}
use Rattle.lb_model_grammar.proofs.NumberReading.{each-number, number-faults, number-goes_on, number-missing, number-one, number-read, number-too_large}
use Rattle.lb_model_grammar.proofs.laws.numbers_read.Goals as goal

pub returns-clause-read : goal.returns-clause-read
returns-clause-read c = number-read

pub returns-clause-goes_on : goal.returns-clause-goes_on
returns-clause-goes_on c = number-goes_on

pub returns-clause-too_big : goal.returns-clause-too_big
returns-clause-too_big c = number-too_large

pub returns-clause-missing : goal.returns-clause-missing
returns-clause-missing c = number-missing

pub returns-clause-no_other_fault : goal.returns-clause-no_other_fault
returns-clause-no_other_fault c = number-faults

pub returns-clause-one_worth : goal.returns-clause-one_worth
returns-clause-one_worth c = number-one false

pub returns-clause-each : goal.returns-clause-each
returns-clause-each c = each-number
