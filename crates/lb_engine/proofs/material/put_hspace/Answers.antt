use Rattle.lb_engine.proofs.NestLemmas.{nest_leads}
use Rattle.lb_engine.proofs.material.put_hspace.Goals as goal

pub returns : goal.returns
returns g c = record { goes = nest_leads c.put_hspace.result c.put_hspace.ensures.goes }
