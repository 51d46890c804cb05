use Rattle.std.proofs.Common.{◌≡◌}
use Rattle.std.specs.List.{find}
use Rattle.lb_model_paper.specs.FontFiles.{words}
use Rattle.lb_model_paper.specs.FontRules.{is_wrong_step, wrong_step}
use Rattle.lb_tfm.proofs.rules.wrong_step.Given as goal

-- no word before this one breaks the rule
abbrev pub invariant-loop-word : goal.invariant-loop-word
invariant-loop-word l = find (is_wrong_step l.bytes l.counts) (words l.word l.word-end) ≡ wrong_step l.bytes l.counts
