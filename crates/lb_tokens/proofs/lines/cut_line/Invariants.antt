use Rattle.lb_tokens.proofs.FirstLine.{Further}
use Rattle.lb_tokens.proofs.lines.cut_line.Given as goal

abbrev pub invariant-loop-end : goal.invariant-loop-end
invariant-loop-end l = Further l.text l.end
