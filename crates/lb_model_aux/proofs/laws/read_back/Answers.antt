use Rattle.lb_model_aux.proofs.WrittenLines.{checkpoints-read-back, entries-read-back, first-lines-read-back, inputs-read-back, labels-read-back}
use Rattle.lb_model_aux.proofs.laws.read_back.Goals as goal

pub returns-clause-labels : goal.returns-clause-labels
returns-clause-labels c = labels-read-back

pub returns-clause-entries : goal.returns-clause-entries
returns-clause-entries c = entries-read-back

pub returns-clause-checkpoints : goal.returns-clause-checkpoints
returns-clause-checkpoints c = checkpoints-read-back

pub returns-clause-first_lines : goal.returns-clause-first_lines
returns-clause-first_lines c = first-lines-read-back

pub returns-clause-inputs : goal.returns-clause-inputs
returns-clause-inputs c = inputs-read-back
