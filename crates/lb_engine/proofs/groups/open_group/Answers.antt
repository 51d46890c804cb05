use Rattle.lb_engine.proofs.NestLemmas.{nest_leads}
use Rattle.lb_engine.proofs.groups.open_group.Goals as goal

pub returns : goal.returns
returns g c = record { goes = nest_leads c.open_group.result (c.open_group.ensures.goes c.args.engine.now.desk.left) }
