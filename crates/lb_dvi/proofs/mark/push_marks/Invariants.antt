use Rattle.lb_model_paper.specs.Dvi.{pen_at_start}
use Rattle.lb_dvi.specs.Pens.{pen_of}
use Rattle.lb_dvi.proofs.Drawings.{Drawing}
use Rattle.lb_dvi.proofs.mark.push_marks.Given as goal

abbrev pub invariant-loop-mark : goal.invariant-loop-mark
invariant-loop-mark l = Drawing l.marks l.initial.out.items l.initial.fonts.items pen_at_start l.mark-index l.out.items l.fonts.items (pen_of l.pen)
