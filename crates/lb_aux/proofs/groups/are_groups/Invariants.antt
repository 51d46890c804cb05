use Rattle.std.proofs.Common.{◌≡◌, ◌≤◌, drop, false}
use Rattle.lb_model_aux.specs.Groups.{are_groups}
use Rattle.lb_aux.proofs.groups.are_groups.Given as goal

abbrev pub invariant-loop-byte : goal.invariant-loop-byte
invariant-loop-byte l = record {
  same : are_groups false 0 l.text ≡ are_groups l.behind l.level (drop l.byte-index l.text);
  at_most : l.level ≤ l.byte-index;
}
