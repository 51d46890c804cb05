use Rattle.std.proofs.Common.{arith}
use Rattle.std.proofs.lemmas.Int.{ints}
use Rattle.lb_model_paper.specs.Nodes.{along}
use Rattle.lb_nodes.proofs.sizes.along.Goals as goal

pub returns-in-Vertical-clause-room : goal.returns-in-Vertical-clause-room
unfolding along
returns-in-Vertical-clause-room c = rw c.in-Vertical.is (omega (arith, ints))
