use Rattle.std.proofs.Common.{ℕ, ◌+◌, ◌-◌, ◌<◌, List, length, ap, ◌∙◌, arith}
use Rattle.std.proofs.Math.ListN.{length-set}
use Rattle.std.proofs.lemmas.List.{get_or-replicate, length-replicate}
use Rattle.lb_measure.specs.Measures.{lead_at}
use Rattle.lb_measure.proofs.Measures.{leading-below, leading-more, leading-none, leads-more, leads-start}
use Rattle.lb_measure.proofs.leads.leads.Goals as goal

pub loop-next-init : goal.loop-next-init
loop-next-init c =
    let items = c.in_ok-leads.ensures.items_if_clones_equal (λ y e. e) in
    let last : length c.args.list.now < length c.args.list.now + 1 = omega arith in
    record {
      within = omega arith;
      long = ap length items ∙ length-replicate (length c.args.list.now + 1) 0;
      row = leading-none c.args.list.now;
      leads = leads-start c.args.list.now c.in_ok-leads.leads.items (ap (λ (xs : List ℕ). lead_at xs (length c.args.list.now)) items ∙ get_or-replicate (length c.args.list.now + 1) (length c.args.list.now) 0 0 last);
    }

pub lead-row-requires : goal.lead-row-requires
lead-row-requires c = omega (arith, c.loop-next.invariant.row, leading-below c.args.list.now c.loop-next.next)

pub loop-next-preserved : goal.loop-next-preserved
loop-next-preserved c =
    let row = leading-more c.args.list.now c.loop-next.next c.loop-next.row c.lead-row.result c.index-list-next.result c.loop-next-test.true c.loop-next.invariant.within c.index-list-next.is c.loop-next.invariant.row c.lead-row.ensures in
    record {
      within = omega (arith, c.loop-next.invariant.within);
      long = length-set c.loop-next.leads.items (c.loop-next.next - 1) c.lead-row.result ∙ c.loop-next.invariant.long;
      row = row;
      leads = leads-more c.args.list.now c.loop-next.leads.items c.loop-next.next c.lead-row.result c.loop-next-test.true c.loop-next.invariant.within c.loop-next.invariant.long c.loop-next.invariant.leads row;
    }
