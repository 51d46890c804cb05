use Rattle.std.proofs.Common.{◌≡◌, take, drop, reverse}
use Rattle.lb_model_paper.specs.Breaks.{trimmed}
use Rattle.lb_lines.proofs.cutting.skip_discardables.Given as goal

abbrev pub invariant-loop-left : goal.invariant-loop-left
invariant-loop-left l = record {
  line : trimmed (take l.left (reverse l.pending)) ≡ trimmed (take l.count (reverse l.initial.pending));
  rest : drop l.left (reverse l.pending) ≡ drop l.count (reverse l.initial.pending);
}

abbrev pub decreases-loop-left : goal.decreases-loop-left
decreases-loop-left l = l.left
