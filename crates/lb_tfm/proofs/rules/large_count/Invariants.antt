use Rattle.std.proofs.Common.{◌≡◌}
use Rattle.std.specs.List.{find}
use Rattle.lb_model_paper.specs.FontFiles.{words}
use Rattle.lb_model_paper.specs.FontRules.{has_large_count, large_count}
use Rattle.lb_tfm.proofs.rules.large_count.Given as goal

-- no word before this one breaks the rule
abbrev pub invariant-loop-word : goal.invariant-loop-word
invariant-loop-word l = find (has_large_count l.bytes) (words l.word 6) ≡ large_count l.bytes
