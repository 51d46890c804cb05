use Rattle.std.proofs.Common.{◌≡◌, ◌+◌, ◌≤◌, length, take, drop}
use Rattle.lb_model_paper.specs.Breaks.{items_in, sums_of}
use Rattle.lb_model_paper.specs.Nodes.{shown}
use Rattle.lb_measure.specs.Amounts.{AreNear}
use Rattle.lb_measure.specs.Measures.{ArePlaces}
use Rattle.lb_measure.proofs.places.places.Given as goal

abbrev pub invariant-loop-k : goal.invariant-loop-k
invariant-loop-k l = record {
  long : length l.places.items ≡ l.k + 1;
  places : ArePlaces l.rules l.list l.places.items (l.k + 1);
  sums : l.summing.sums ≡ sums_of (shown (take l.k l.list));
  count : l.summing.count + items_in (drop l.k l.list) ≤ items_in l.list;
  near : AreNear l.summing.count l.summing.sums;
}
