use Rattle.lb_model_grammar.proofs.DimensionReading.{dimension-faults, dimension-goes_on, dimension-missing, dimension-read, dimension-too_large}
use Rattle.lb_model_grammar.proofs.OneWorth.{dimension-one}
use Rattle.lb_model_grammar.proofs.laws.dimensions_read.Goals as goal

pub returns-clause-read : goal.returns-clause-read
returns-clause-read c = dimension-read

pub returns-clause-goes_on : goal.returns-clause-goes_on
returns-clause-goes_on c = dimension-goes_on

pub returns-clause-too_large : goal.returns-clause-too_large
returns-clause-too_large c = dimension-too_large

pub returns-clause-missing : goal.returns-clause-missing
returns-clause-missing c = dimension-missing

pub returns-clause-no_other_fault : goal.returns-clause-no_other_fault
returns-clause-no_other_fault c = dimension-faults

pub returns-clause-one_worth : goal.returns-clause-one_worth
returns-clause-one_worth c = dimension-one
