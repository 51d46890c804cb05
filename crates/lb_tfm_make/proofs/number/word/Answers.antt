use Rattle.std.proofs.Common.{rules}
use Rattle.lb_tfm_make.specs.FontBytes.{number_word}
use Rattle.lb_tfm_make.proofs.number.word.Goals as goal

pub returns : goal.returns
unfolding number_word
returns c = search rules
