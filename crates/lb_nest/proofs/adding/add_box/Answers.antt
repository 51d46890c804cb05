use Rattle.lb_model_nest.specs.Wholes.{Executed, Whole}
use Rattle.lb_nest.specs.Pages.{box_with}
use Rattle.lb_nest.proofs.AddLemmas.{box-added-is}
use Rattle.lb_nest.proofs.LeadsLemmas.{leads-as, leads-looking}
use Rattle.lb_nest.proofs.adding.add_box.Goals as goal

pub returns : goal.returns
returns g c =
    record {
      goes =
          leads-as (λ (a : Whole → Executed). a) c.add_by.result (box-added-is c.args.boxed)
          (leads-looking (λ rules w. box_with rules c.args.boxed w) c.in_ok-rules.rules c.add_by.result c.in_ok-rules.ensures.looks c.add_by.ensures.goes);
    }
