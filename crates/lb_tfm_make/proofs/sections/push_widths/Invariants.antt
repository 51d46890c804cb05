use Rattle.std.proofs.Common.{◌≡◌, ◌++◌, ◌∷◌, map, drop}
use Rattle.lb_tfm_make.specs.FontBytes.{fix_word, number_word}
use Rattle.lb_tfm_make.proofs.sections.push_widths.Given as goal

abbrev pub invariant-loop-width : goal.invariant-loop-width
invariant-loop-width l = l.words.items ++ map fix_word (drop l.width-index l.widths) ≡ l.fn.words.items ++ number_word 0 ∷ map fix_word l.widths
