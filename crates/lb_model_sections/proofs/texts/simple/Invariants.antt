use Rattle.std.proofs.Common.{◌≡◌, drop}
use Rattle.lb_model_sections.specs.SimpleTexts.{begun, read_all}
use Rattle.lb_model_sections.proofs.texts.simple.Given as goal

-- what is read from here on gives what all gives
abbrev pub invariant-loop-code : goal.invariant-loop-code
invariant-loop-code l = read_all l.reader (drop l.code-index l.text) ≡ read_all begun l.text
