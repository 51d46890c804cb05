use Rattle.std.proofs.Common.{refl}
use Rattle.lb_base.specs.declared.node.Node.{out-Node, roll-Node}
use Rattle.lb_model.specs.StartState.{start, start_category, start_space_factor}
use Rattle.lb_model_nest.specs.Paragraphs.{begun_in_vertical}
use Rattle.lb_model_nest.specs.Words.{character, word_ended}
use Rattle.lb_model_paper.specs.FontFiles.{byte_at, codes_from, counts_of, font_of, half_at, scaled, slant, word_at}
use Rattle.lb_model_paper.specs.Fonts.{action_for, program}
use Rattle.lb_model_paper.specs.TestFont.{test_font}
use Rattle.lb_model_paper.specs.Words.{set_from, set_word, sought}
use Rattle.lb_model_engine.proofs.rows.words.Goals as goal

pub returns-clause-nodes : goal.returns-clause-nodes
unfolding character word_ended begun_in_vertical start start_category start_space_factor test_font font_of counts_of half_at byte_at word_at scaled codes_from slant set_word set_from sought program action_for out-Node roll-Node denote.Hole.Carrier.out
returns-clause-nodes c = refl

pub returns-clause-lacked : goal.returns-clause-lacked
unfolding character word_ended begun_in_vertical start start_category start_space_factor test_font font_of counts_of half_at byte_at word_at scaled codes_from slant set_word set_from sought program action_for out-Node roll-Node denote.Hole.Carrier.out
returns-clause-lacked c = refl

pub returns-clause-lacked_cuts_nothing : goal.returns-clause-lacked_cuts_nothing
unfolding character word_ended begun_in_vertical start start_category start_space_factor test_font font_of counts_of half_at byte_at word_at scaled codes_from slant set_word set_from sought program action_for out-Node roll-Node denote.Hole.Carrier.out
returns-clause-lacked_cuts_nothing c = refl

pub returns-clause-sentence : goal.returns-clause-sentence
unfolding character word_ended begun_in_vertical start start_category start_space_factor test_font font_of counts_of half_at byte_at word_at scaled codes_from slant set_word set_from sought program action_for out-Node roll-Node denote.Hole.Carrier.out
returns-clause-sentence c = refl

pub returns-clause-initial : goal.returns-clause-initial
unfolding character word_ended begun_in_vertical start start_category start_space_factor test_font font_of counts_of half_at byte_at word_at scaled codes_from slant set_word set_from sought program action_for out-Node roll-Node denote.Hole.Carrier.out
returns-clause-initial c = refl
