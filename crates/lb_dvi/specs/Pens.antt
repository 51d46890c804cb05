-- The pen of a page as the definition of its bytes has it.
use Rattle.lb_dvi.specs.declared.pen.Pen.{Pen}
use Rattle.lb_model_paper.specs.Dvi as dvi

abbrev pub pen_of : Pen → dvi.Pen
pen_of pen = record { h = pen.h; v = pen.v; font = pen.font }
