use Rattle.std.proofs.Common.{refl}
use Rattle.lb_dvi.proofs.laws.preamble_length.Goals as goal

pub returns : goal.returns
returns c = λ m. refl
