use Rattle.std.proofs.Common.{length, reverse}
use Rattle.lb_nest.specs.Endings.{made_added}
use Rattle.lb_nest.specs.Views.{anywhere}
use Rattle.lb_nest.proofs.ComesLemmas.{Comes}
use Rattle.lb_nest.proofs.lines.add_lines.Given as goal

abbrev pub invariant-loop-line : goal.invariant-loop-line
invariant-loop-line g l = record { comes : Comes g.C.Cells anywhere (made_added l.fn.lines) (made_added (reverse l.rest.items)) l.cells l.groups l.left l.nest l.fn.cells l.fn.groups l.fn.left l.fn.nest }

abbrev pub decreases-loop-line : goal.decreases-loop-line
decreases-loop-line g l = length l.rest.items
