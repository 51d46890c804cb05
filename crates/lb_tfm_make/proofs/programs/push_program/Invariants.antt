use Rattle.std.proofs.Common.{◌≡◌, ◌++◌, length, drop}
use Rattle.lb_tfm_make.specs.FontBytes.{program_words, steps_behind}
use Rattle.lb_tfm_make.proofs.programs.push_program.Given as goal

abbrev pub invariant-loop-step : goal.invariant-loop-step
invariant-loop-step l = record {
  left : l.left ≡ length (steps_behind (drop l.step-index l.steps) l.code);
  words : l.words.items ++ program_words (steps_behind (drop l.step-index l.steps) l.code) ≡ l.fn.words.items ++ program_words (steps_behind l.steps l.code);
}
