use Rattle.lb_engine.proofs.NestLemmas.{nest_leads}
use Rattle.lb_engine.proofs.material.end_line.Goals as goal

pub returns : goal.returns
returns g c = record { goes = nest_leads c.end_line.result c.end_line.ensures.goes }
