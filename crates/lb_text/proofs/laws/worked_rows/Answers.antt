-- The definitions compute the rows.
use Rattle.std.proofs.Common.{refl}
use Rattle.lb_model_paper.specs.Fonts.{action_for, program}
use Rattle.lb_model_paper.specs.Words.{set_from, set_word, sought}
use Rattle.lb_text.proofs.laws.worked_rows.Goals as goal

pub returns-clause-ligature : goal.returns-clause-ligature
unfolding set_word set_from sought program action_for
returns-clause-ligature c = refl

pub returns-clause-too_few : goal.returns-clause-too_few
unfolding set_word set_from sought program action_for
returns-clause-too_few c = refl
