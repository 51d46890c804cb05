use Rattle.std.proofs.Common.{◌≡◌, ◌++◌, drop}
use Rattle.lb_model_paper.specs.Dvi.{definitions_from}
use Rattle.lb_dvi.proofs.font.push_definitions.Given as goal

-- what is written so far and what is left make up the whole
abbrev pub invariant-loop-number : goal.invariant-loop-number
invariant-loop-number l = l.out.items ++ definitions_from l.number (drop l.number l.fonts) ≡ l.initial.out.items ++ definitions_from 0 l.fonts
