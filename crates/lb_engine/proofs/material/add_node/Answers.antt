use Rattle.lb_engine.proofs.NestLemmas.{nest_leads}
use Rattle.lb_engine.proofs.material.add_node.Goals as goal

pub returns : goal.returns
returns g c = record { goes = nest_leads c.add_node.result c.add_node.ensures.goes }
