use Rattle.lb_engine.proofs.NestLemmas.{nest_leads}
use Rattle.lb_engine.proofs.material.place_void.Goals as goal

pub returns : goal.returns
returns g c = record { goes = nest_leads c.place_void.result (c.place_void.ensures.goes c.args.engine.now.desk.left) }
