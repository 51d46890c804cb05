use Rattle.lb_model_nest.specs.Wholes.{Executed, Whole}
use Rattle.lb_nest.specs.Pages.{rest_shipped}
use Rattle.lb_nest.proofs.LeadsLemmas.{leads-as, leads-looking}
use Rattle.lb_nest.proofs.PageLemmas.{cleared-is}
use Rattle.lb_nest.proofs.pages.clear_page.Goals as goal

pub returns : goal.returns
returns g c =
    record { goes = leads-as (λ (a : Whole → Executed). a) c.ship_rest.result cleared-is (leads-looking rest_shipped c.in_ok-rules.rules c.ship_rest.result c.in_ok-rules.ensures.looks c.ship_rest.ensures.goes) }
