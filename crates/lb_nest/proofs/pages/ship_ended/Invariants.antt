use Rattle.std.proofs.Common.{◌≤◌, ℕ, suc, length}
use Rattle.lb_model_nest.specs.Pages.{pages_shipped}
use Rattle.lb_nest.specs.Pages.{pages_ended}
use Rattle.lb_nest.proofs.LoopLemmas.{Led}
use Rattle.lb_nest.proofs.pages.ship_ended.Given as goal

abbrev pub decreases-pages : goal.decreases-pages
decreases-pages g l = length l.nest.page

abbrev pub invariant-pages : goal.invariant-pages
invariant-pages g l =
    (pages : ℕ) × (length l.nest.page ≤ pages)
    × Led g.C.Cells (pages_ended l.rules) (pages_shipped (suc pages) l.rules) l.cells l.groups l.left l.nest l.fn.cells l.fn.groups l.fn.left l.fn.nest
