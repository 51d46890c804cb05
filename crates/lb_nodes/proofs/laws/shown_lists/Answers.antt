use Rattle.lb_model_paper.specs.Nodes.{shown}
use Rattle.lb_nodes.proofs.ShownLaws.{shown-Disc, shown-itself, shown-joined, shown-none_left}
use Rattle.lb_model_paper.proofs.ShownLists.{shown-nil, shown-other}
use Rattle.lb_nodes.proofs.laws.shown_lists.Goals as goal

pub returns-clause-nothing : goal.returns-clause-nothing
returns-clause-nothing c = shown-nil

pub returns-clause-joined : goal.returns-clause-joined
returns-clause-joined c = shown-joined

pub returns-clause-disc : goal.returns-clause-disc
returns-clause-disc c = shown-Disc

pub returns-clause-other : goal.returns-clause-other
returns-clause-other c = shown-other

pub returns-clause-none_left : goal.returns-clause-none_left
returns-clause-none_left c = shown-none_left

pub returns-clause-itself : goal.returns-clause-itself
returns-clause-itself c = shown-itself

pub returns-clause-again : goal.returns-clause-again
returns-clause-again c = λ nodes. shown-itself (shown nodes) (shown-none_left nodes)
