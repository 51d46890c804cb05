use Rattle.lb_engine.proofs.NestLemmas.{nest_leads}
use Rattle.lb_engine.proofs.material.space.Goals as goal

pub returns : goal.returns
returns g c = record { goes = nest_leads c.space.result c.space.ensures.goes }
