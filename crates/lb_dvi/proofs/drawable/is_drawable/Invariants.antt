use Rattle.lb_dvi.proofs.Drawables.{Same}
use Rattle.lb_dvi.proofs.drawable.is_drawable.Given as goal

abbrev pub invariant-loop-mark : goal.invariant-loop-mark
invariant-loop-mark l = Same l.code.marks l.mark-index
