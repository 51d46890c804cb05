use Rattle.std.proofs.Common.{◌≡◌}
use Rattle.std.specs.List.{find}
use Rattle.lb_model_paper.specs.FontFiles.{words}
use Rattle.lb_model_paper.specs.FontRules.{is_large}
use Rattle.lb_tfm.proofs.rules.first_large.Given as goal

-- no fix-word before this one is large
abbrev pub invariant-loop-word : goal.invariant-loop-word
invariant-loop-word l = find (is_large l.bytes) (words l.word l.end) ≡ find (is_large l.bytes) (words l.fn.start l.end)
