use Rattle.std.proofs.Common.{length}
use Rattle.lb_model_nest.specs.Pages.{all_added}
use Rattle.lb_nest.proofs.LoopLemmas.{Led}
use Rattle.lb_nest.proofs.adding.add_each.Given as goal

abbrev pub decreases-nodes : goal.decreases-nodes
decreases-nodes g l = length l.nodes

abbrev pub invariant-nodes : goal.invariant-nodes
invariant-nodes g l = Led g.C.Cells (all_added l.fn.nodes) (all_added l.nodes) l.cells l.groups l.left l.nest l.fn.cells l.fn.groups l.fn.left l.fn.nest
