use Rattle.std.proofs.Common.{arith}
use Rattle.lb_measure.proofs.Counting.{length-items}
use Rattle.lb_measure.proofs.measured.measure.Goals as goal

pub returns-clause-measured : goal.returns-clause-measured
returns-clause-measured c = record {
  few = omega (arith, c.requires, length-items c.args.list.now);
  ends = c.end_sums.ensures.value;
  near = c.end_sums.ensures.near;
  long = c.in_ok-places.ensures.long;
  places = c.in_ok-places.ensures.places;
  leads_long = c.in_ok-leads.ensures.long;
  leads = c.in_ok-leads.ensures.leads;
}
