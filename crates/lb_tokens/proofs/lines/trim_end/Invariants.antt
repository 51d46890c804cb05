use Rattle.std.proofs.Common.{◌≡◌, ◌≤◌, length, take}
use Rattle.lb_model.specs.Lines.{trimmed}
use Rattle.lb_tokens.proofs.lines.trim_end.Given as goal

abbrev pub invariant-loop-end : goal.invariant-loop-end
invariant-loop-end l = record { within : l.end ≤ length l.line; same : trimmed (take l.end l.line) ≡ trimmed l.line }

abbrev pub decreases-loop-end : goal.decreases-loop-end
decreases-loop-end l = l.end
