use Rattle.std.proofs.Common.{◌≡◌, ◌<◌, ◌≤◌, ◌+◌, take, drop, false}
use Rattle.lb_model_aux.specs.Groups.{to_close}
use Rattle.lb_model_aux.proofs.GroupReading.{prefixed}
use Rattle.lb_aux.proofs.groups.place_of_close.Given as goal

abbrev pub invariant-loop-at : goal.invariant-loop-at
invariant-loop-at l = record {
  same : to_close false 1 l.text ≡ prefixed (take l.at l.text) (to_close l.behind l.level (drop l.at l.text));
  some : 0 < l.level;
  at_most : l.level ≤ l.at + 1;
}
