use Rattle.std.proofs.Common.{refl}
use Rattle.lb_model_paper.specs.FontFiles.{byte_at, codes_from, counts_of, font_of, half_at, scaled, word_at}
use Rattle.lb_model_paper.specs.FontRules.{first_broken, large_count, wrong_count, wrong_dimension, wrong_info, wrong_length, wrong_step}
use Rattle.lb_model_paper.specs.Fonts.{action_for, program}
use Rattle.lb_tfm.proofs.rows.worked_programs.Goals as goal

pub returns-clause-kept : goal.returns-clause-kept
unfolding first_broken large_count wrong_count wrong_dimension wrong_info wrong_length wrong_step byte_at counts_of half_at word_at
returns-clause-kept c = refl

pub returns-clause-kern : goal.returns-clause-kern
unfolding font_of program action_for codes_from byte_at counts_of half_at scaled
returns-clause-kern c = refl

pub returns-clause-skip : goal.returns-clause-skip
unfolding font_of program action_for codes_from byte_at counts_of half_at scaled
returns-clause-skip c = refl

pub returns-clause-restart : goal.returns-clause-restart
unfolding font_of program action_for codes_from byte_at counts_of half_at scaled
returns-clause-restart c = refl

pub returns-clause-right_edge : goal.returns-clause-right_edge
unfolding font_of program action_for codes_from byte_at counts_of half_at scaled
returns-clause-right_edge c = refl

pub returns-clause-both_edges : goal.returns-clause-both_edges
unfolding font_of program action_for codes_from byte_at counts_of half_at scaled
returns-clause-both_edges c = refl

pub returns-clause-left_edge : goal.returns-clause-left_edge
unfolding font_of program action_for codes_from byte_at counts_of half_at scaled
returns-clause-left_edge c = refl

pub returns-clause-no_program : goal.returns-clause-no_program
unfolding font_of program action_for codes_from byte_at counts_of half_at scaled
returns-clause-no_program c = refl
