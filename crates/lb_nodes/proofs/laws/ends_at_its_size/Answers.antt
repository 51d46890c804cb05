use Rattle.lb_nodes.proofs.Endings.{box_ends, shift_behind-whole}
use Rattle.lb_nodes.proofs.laws.ends_at_its_size.Goals as goal

pub returns-clause-excess : goal.returns-clause-excess
returns-clause-excess c = shift_behind-whole

pub returns-clause-size : goal.returns-clause-size
returns-clause-size c = box_ends
