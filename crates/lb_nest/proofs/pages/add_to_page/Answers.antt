use Rattle.std.proofs.Common.{sym}
use Rattle.lb_model_nest.specs.Wholes.{Executed, Whole}
use Rattle.lb_nest.specs.Pages.{pages_ended}
use Rattle.lb_nest.specs.Views.{whole}
use Rattle.lb_nest.proofs.LeadsLemmas.{leads-as, leads-behind, leads-looking}
use Rattle.lb_nest.proofs.PageLemmas.{added-is, with_last}
use Rattle.lb_nest.proofs.pages.add_to_page.Goals as goal

pub returns : goal.returns
returns g c =
    let a = c.args in
    let n = a.nest.now in
    let result = c.ship_ended.result in
    let rules = c.in_ok-rules.rules in
    record {
      goes =
          leads-as (λ (r : Whole → Executed). r) result (added-is a.node)
          (leads-looking (λ r w. pages_ended r (with_last a.node w)) rules result c.in_ok-rules.ensures.looks
          (leads-behind result (λ w p k o i. pages_ended rules (whole w p k a.groups.now a.left.now (record n { page = sym c.in_ok-contribute.ensures.ok i }))) c.ship_ended.ensures.goes));
    }
