use Rattle.lb_tfm_make.proofs.FixBytes.{stands-for}
use Rattle.lb_tfm_make.proofs.laws.bytes_of_fix_words.Goals as goal

pub returns : goal.returns
returns c = stands-for
