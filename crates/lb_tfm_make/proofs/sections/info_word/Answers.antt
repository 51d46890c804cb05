use Rattle.std.proofs.Common.{sym, rules}
use Rattle.lb_tfm_make.specs.FontBytes.{info_word}
use Rattle.lb_tfm_make.proofs.DistinctWidths.{width-among}
use Rattle.lb_tfm_make.proofs.sections.info_word.Goals as goal

pub width_index-index-requires-clause-among : goal.width_index-index-requires-clause-among
width_index-index-requires-clause-among c =
    rw c.requires.widths (search (rules, width-among c.args.rows.now c.args.code c.in-Some.row (sym c.in-Some.ensures)))

pub returns-in_default : goal.returns-in_default
unfolding info_word
returns-in_default c = search rules

pub returns-in-Some-place_among : goal.returns-in-Some-place_among
unfolding info_word
returns-in-Some-place_among c = search rules

pub returns-in-None : goal.returns-in-None
unfolding info_word
returns-in-None c = search rules
