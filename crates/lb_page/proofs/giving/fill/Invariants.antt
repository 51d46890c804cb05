use Rattle.std.proofs.Common.{◌≡◌, ◌≤◌, ◌+◌, drop, take, vec_len, vec_capacity}
use Rattle.lb_page.specs.Fillings.{IsFilling, spare}
use Rattle.lb_page.proofs.giving.fill.Given as goal

abbrev pub invariant-loop-at : goal.invariant-loop-at
invariant-loop-at l = record {
  nodes : l.nodes.items ≡ drop l.at l.initial.nodes.items;
  filling : IsFilling l.rules (take l.at l.initial.nodes.items) l.filling;
  items : vec_len l.filling.items + spare l.filling.topped ≤ l.at + 1;
  feet : vec_len l.filling.feet ≤ l.at;
  item_room : vec_capacity l.filling.items ≡ vec_capacity l.initial.filling.items;
  foot_room : vec_capacity l.filling.feet ≡ vec_capacity l.initial.filling.feet;
}
