use Rattle.std.proofs.Common.{◌≡◌, ◌++◌, ◌+◌, map}
use Rattle.lb_model_paper.specs.FontFiles.{words}
use Rattle.lb_tfm_make.specs.FontBytes.{codes_of, info_word, last_code}
use Rattle.lb_tfm_make.proofs.sections.push_infos.Given as goal

abbrev pub invariant-loop-code : goal.invariant-loop-code
invariant-loop-code l =
    l.words.items ++ map (info_word l.rows l.widths l.starts) (words l.code (last_code 0 l.rows + 1)) ≡ l.fn.words.items ++ map (info_word l.rows l.widths l.starts) (codes_of l.rows)
