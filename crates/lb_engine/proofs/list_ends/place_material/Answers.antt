use Rattle.lb_engine.proofs.NestLemmas.{nest_leads}
use Rattle.lb_engine.proofs.list_ends.place_material.Goals as goal

pub returns : goal.returns
returns g c = record { goes = nest_leads c.place_material.result c.place_material.ensures.goes }
