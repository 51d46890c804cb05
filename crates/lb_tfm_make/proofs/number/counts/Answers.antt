use Rattle.std.proofs.Common.{rules}
use Rattle.lb_tfm_make.specs.FontBytes.{count_word}
use Rattle.lb_tfm_make.proofs.number.counts.Goals as goal

pub returns : goal.returns
unfolding count_word
returns c = search rules
