use Rattle.lb_engine.proofs.NestLemmas.{nest_leads}
use Rattle.lb_engine.proofs.material.put_vspace.Goals as goal

pub returns : goal.returns
returns g c = record { goes = nest_leads c.put_vspace.result c.put_vspace.ensures.goes }
