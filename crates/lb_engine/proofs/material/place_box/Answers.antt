use Rattle.lb_engine.proofs.NestLemmas.{nest_leads}
use Rattle.lb_engine.proofs.material.place_box.Goals as goal

pub returns : goal.returns
returns g c = record { goes = nest_leads c.place_box.result c.place_box.ensures.goes }
