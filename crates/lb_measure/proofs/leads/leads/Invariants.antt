use Rattle.std.proofs.Common.{◌≡◌, ◌+◌, ◌≤◌, length, drop}
use Rattle.lb_measure.specs.Measures.{AreLeads, leading}
use Rattle.lb_measure.proofs.leads.leads.Given as goal

abbrev pub invariant-loop-next : goal.invariant-loop-next
invariant-loop-next l = record {
  within : l.next ≤ length l.list;
  long : length l.leads.items ≡ length l.list + 1;
  row : l.row ≡ leading (drop l.next l.list);
  leads : AreLeads l.list l.leads.items l.next;
}

abbrev pub decreases-loop-next : goal.decreases-loop-next
decreases-loop-next l = l.next
