use Rattle.lb_engine.proofs.NestLemmas.{nest_leads}
use Rattle.lb_engine.proofs.material.put_horizontal_glue.Goals as goal

pub returns : goal.returns
returns g c = record { goes = nest_leads c.put_horizontal_glue.result c.put_horizontal_glue.ensures.goes }
