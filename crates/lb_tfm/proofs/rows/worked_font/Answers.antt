use Rattle.std.proofs.Common.{◌≡◌, ◌<◌, None, Some, pos, arith, refl, ◌∙◌}
use Rattle.lb_model_paper.specs.FontFiles.{byte_at, counts_of, metrics_for, font_of, half_at, scaled, word_at}
use Rattle.lb_model_paper.specs.FontRules.{first_broken, large_count, wrong_count, wrong_dimension, wrong_info, wrong_length, wrong_step}
use Rattle.lb_model_paper.specs.TestFont.{test_font}
use Rattle.lb_tfm.proofs.Drawn.{code-at}
use Rattle.lb_tfm.proofs.rows.worked_font.Goals as goal

pub returns-clause-space : goal.returns-clause-space
unfolding font_of byte_at counts_of half_at scaled test_font word_at
returns-clause-space c = refl

pub returns-clause-stretch : goal.returns-clause-stretch
unfolding font_of byte_at counts_of half_at scaled test_font word_at
returns-clause-stretch c = refl

pub returns-clause-kept : goal.returns-clause-kept
unfolding first_broken large_count wrong_count wrong_dimension wrong_info wrong_length wrong_step byte_at counts_of half_at test_font word_at
returns-clause-kept c = refl

read_at : metrics_for test_font (counts_of test_font) 655360 72 ≡ Some (record { width = pos 327680; height = pos 491520; depth = pos 163840; italic = pos 0 })
unfolding byte_at counts_of half_at scaled test_font
read_at = refl

missing_at : metrics_for test_font (counts_of test_font) 655360 32 ≡ None
unfolding byte_at counts_of half_at scaled test_font
missing_at = refl

pub returns-clause-present : goal.returns-clause-present
unfolding font_of
returns-clause-present c = let low : 72 < 256 = omega arith in code-at (metrics_for test_font (counts_of test_font) 655360) 72 low ∙ read_at

pub returns-clause-absent : goal.returns-clause-absent
unfolding font_of
returns-clause-absent c = let low : 32 < 256 = omega arith in code-at (metrics_for test_font (counts_of test_font) 655360) 32 low ∙ missing_at

pub returns-clause-cut : goal.returns-clause-cut
unfolding first_broken large_count wrong_count wrong_dimension wrong_info wrong_length wrong_step byte_at counts_of half_at test_font word_at
returns-clause-cut c = refl

pub returns-clause-longer : goal.returns-clause-longer
unfolding first_broken large_count wrong_count wrong_dimension wrong_info wrong_length wrong_step byte_at counts_of half_at test_font word_at
returns-clause-longer c = refl
