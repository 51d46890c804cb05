use Rattle.lb_engine.proofs.NestLemmas.{nest_leads}
use Rattle.lb_engine.proofs.material.control_space.Goals as goal

pub returns : goal.returns
returns g c = record { goes = nest_leads c.control_space.result c.control_space.ensures.goes }
