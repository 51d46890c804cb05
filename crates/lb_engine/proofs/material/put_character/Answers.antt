use Rattle.lb_engine.proofs.NestLemmas.{nest_leads}
use Rattle.lb_engine.proofs.material.put_character.Goals as goal

pub returns : goal.returns
returns g c = record { goes = nest_leads c.put_character.result (c.put_character.ensures.goes c.args.engine.now.desk.left) }
