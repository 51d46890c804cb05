use Rattle.std.proofs.Common.{rules}
use Rattle.lb_tfm_make.specs.FontBytes.{fix_word, number_word}
use Rattle.lb_tfm_make.proofs.number.fix_word.Goals as goal

pub returns : goal.returns
unfolding fix_word number_word
returns c = search rules
