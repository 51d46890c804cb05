use Rattle.std.proofs.Common.{◌≡◌}
use Rattle.lb_lines.specs.Apart.{together}
use Rattle.lb_lines.proofs.paragraph.together.Given as goal

abbrev pub invariant-loop-line : goal.invariant-loop-line
invariant-loop-line l = record {
  list : l.list ≡ together l.yielded;
}
