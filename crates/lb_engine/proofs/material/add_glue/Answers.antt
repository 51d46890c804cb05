use Rattle.lb_engine.proofs.NestLemmas.{nest_leads}
use Rattle.lb_engine.proofs.material.add_glue.Goals as goal

pub returns : goal.returns
returns g c = record { goes = nest_leads c.add_glue.result c.add_glue.ensures.goes }
