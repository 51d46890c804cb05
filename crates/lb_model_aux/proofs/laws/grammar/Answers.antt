use Rattle.lb_model_aux.proofs.GroupGrammar.{groups-are-read, labels-are-read}
use Rattle.lb_model_aux.proofs.laws.grammar.Goals as goal

pub returns-clause-groups : goal.returns-clause-groups
returns-clause-groups c = groups-are-read

pub returns-clause-labels : goal.returns-clause-labels
returns-clause-labels c = labels-are-read
