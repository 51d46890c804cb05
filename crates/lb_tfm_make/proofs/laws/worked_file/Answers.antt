use Rattle.std.proofs.Common.{refl}
use Rattle.lb_tfm_make.specs.FontBytes.{count_word, file_of, fix_word, info_word, last_code, lefts, number_word, programs, restarts, width_index, widths_through}
use Rattle.lb_model_paper.specs.TestFont.{test_font}
use Rattle.lb_tfm_make.proofs.laws.worked_file.Goals as goal

pub returns : goal.returns
unfolding count_word file_of fix_word info_word last_code lefts number_word programs restarts test_font width_index widths_through
returns c = refl
