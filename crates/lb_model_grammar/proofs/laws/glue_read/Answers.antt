use Rattle.lb_model_grammar.proofs.GlueReading.{glue-faults, glue-goes_on, glue-missing, glue-read, glue-too_large}
use Rattle.lb_model_grammar.proofs.OneWorth.{glue-one}
use Rattle.lb_model_grammar.proofs.laws.glue_read.Goals as goal

pub returns-clause-read : goal.returns-clause-read
returns-clause-read c = glue-read

pub returns-clause-goes_on : goal.returns-clause-goes_on
returns-clause-goes_on c = glue-goes_on

pub returns-clause-too_large : goal.returns-clause-too_large
returns-clause-too_large c = glue-too_large

pub returns-clause-missing : goal.returns-clause-missing
returns-clause-missing c = glue-missing

pub returns-clause-no_other_fault : goal.returns-clause-no_other_fault
returns-clause-no_other_fault c = glue-faults

pub returns-clause-one_worth : goal.returns-clause-one_worth
returns-clause-one_worth c = glue-one
