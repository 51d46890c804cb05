use Rattle.std.proofs.Common.{◌≡◌, ◌+◌, drop}
use Rattle.lb_engine.specs.Segments.{width_of_lines}
use Rattle.lb_engine.proofs.segments.width_of_lines.Given as goal

abbrev pub invariant-loop-at : goal.invariant-loop-at
invariant-loop-at l = record { width : width_of_lines l.lines l.text ≡ l.at + width_of_lines l.left (drop l.at l.text) }
