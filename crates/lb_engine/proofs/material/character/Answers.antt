use Rattle.lb_engine.proofs.NestLemmas.{nest_leads}
use Rattle.lb_engine.proofs.material.character.Goals as goal

pub returns : goal.returns
returns g c = record { goes = nest_leads c.character.result c.character.ensures.goes }
