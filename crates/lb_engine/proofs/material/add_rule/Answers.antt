use Rattle.lb_engine.proofs.NestLemmas.{nest_leads}
use Rattle.lb_engine.proofs.material.add_rule.Goals as goal

pub returns : goal.returns
returns g c = record { goes = nest_leads c.add_rule.result c.add_rule.ensures.goes }
