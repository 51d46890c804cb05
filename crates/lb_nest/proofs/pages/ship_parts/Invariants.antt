use Rattle.std.proofs.Common.{length}
use Rattle.lb_model_nest.specs.Pages.{parts_shipped}
use Rattle.lb_nest.proofs.LoopLemmas.{Led}
use Rattle.lb_nest.proofs.pages.ship_parts.Given as goal

abbrev pub decreases-parts : goal.decreases-parts
decreases-parts g l = length l.parts

abbrev pub invariant-parts : goal.invariant-parts
invariant-parts g l = Led g.C.Cells (parts_shipped l.fn.parts) (parts_shipped l.parts) l.cells l.groups l.left l.nest l.fn.cells l.fn.groups l.fn.left l.fn.nest
