use Rattle.std.proofs.Common.{◌≡◌, ◌++◌, drop}
use Rattle.lb_tfm_make.specs.FontBytes.{programs, step_words}
use Rattle.lb_tfm_make.proofs.programs.step_words.Given as goal

abbrev pub invariant-loop-code : goal.invariant-loop-code
invariant-loop-code l = l.words.items ++ programs l.steps (drop l.code-index l.codes) ≡ step_words l.steps l.codes
