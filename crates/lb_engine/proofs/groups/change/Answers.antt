use Rattle.lb_engine.proofs.NestLemmas.{nest_leads}
use Rattle.lb_engine.proofs.groups.change.Goals as goal

pub returns : goal.returns
returns g c = record { goes = nest_leads c.change.result (c.change.ensures.goes c.args.engine.now.desk.left) }
