use Rattle.lb_model_grammar.proofs.GroupReading.{closes-first, undelimited-read, undelimited-stops}
use Rattle.lb_model_grammar.proofs.laws.undelimited_arguments_read.Goals as goal

pub returns-clause-read : goal.returns-clause-read
returns-clause-read c = undelimited-read

pub returns-clause-mismatch : goal.returns-clause-mismatch
returns-clause-mismatch c = closes-first

pub returns-clause-runaway : goal.returns-clause-runaway
returns-clause-runaway c = undelimited-stops
