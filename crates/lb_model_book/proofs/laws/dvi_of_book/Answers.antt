use Rattle.lb_model_book.proofs.DviParts.{dvi_of}
use Rattle.lb_model_book.proofs.laws.dvi_of_book.Goals as goal

pub returns : goal.returns
returns c = dvi_of
