use Rattle.std.proofs.Common.{◌∷◌}
use Rattle.lb_model_grammar.proofs.ArgumentReading.{delimited-read, none-delimited, only-longer}
use Rattle.lb_model_grammar.proofs.GroupReading.{braces-go, braces-stay, mismatched, runs-away}
use Rattle.lb_model_grammar.proofs.laws.delimited_arguments_read.Goals as goal

pub returns-clause-read : goal.returns-clause-read
returns-clause-read c = λ long d delimiter. delimited-read long (d ∷ delimiter)

pub returns-clause-none : goal.returns-clause-none
returns-clause-none c = none-delimited

pub returns-clause-mismatch : goal.returns-clause-mismatch
returns-clause-mismatch c = λ long d delimiter. mismatched long (d ∷ delimiter)

pub returns-clause-runaway : goal.returns-clause-runaway
returns-clause-runaway c = λ long d delimiter. runs-away long (d ∷ delimiter)

pub returns-clause-too_long : goal.returns-clause-too_long
returns-clause-too_long c = only-longer

pub returns-clause-braces_go : goal.returns-clause-braces_go
returns-clause-braces_go c = braces-go

pub returns-clause-braces_stay : goal.returns-clause-braces_stay
returns-clause-braces_stay c = braces-stay
