use Rattle.std.proofs.Common.{◌≡◌, ◌++◌, ◌+◌, ◌≤◌, length, drop}
use Rattle.lb_tfm_make.specs.FontBytes.{programs, restarts}
use Rattle.lb_tfm_make.proofs.programs.push_restarts.Given as goal

abbrev pub invariant-loop-code : goal.invariant-loop-code
invariant-loop-code l = record {
  small : l.place + length (programs l.steps (drop l.code-index l.codes)) ≤ 4352;
  words : l.words.items ++ restarts l.steps l.place (drop l.code-index l.codes) ≡ l.fn.words.items ++ restarts l.steps (length l.codes) l.codes;
}
