use Rattle.std.proofs.Common.{◌≡◌, ◌++◌, ◌+◌}
use Rattle.lb_model_paper.specs.FontFiles.{words}
use Rattle.lb_tfm_make.specs.FontBytes.{codes_of, last_code, lefts}
use Rattle.lb_tfm_make.proofs.programs.lefts.Given as goal

abbrev pub invariant-loop-code : goal.invariant-loop-code
invariant-loop-code l = l.codes.items ++ lefts l.steps (words l.code (last_code 0 l.rows + 1)) ≡ lefts l.steps (codes_of l.rows)
