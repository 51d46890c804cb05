use Rattle.lb_engine.proofs.NestLemmas.{nest_leads}
use Rattle.lb_engine.proofs.paragraphs.open_list.Goals as goal

pub returns : goal.returns
returns g c = record { goes = nest_leads c.open_list.result (c.open_list.ensures.goes c.args.engine.now.desk.left) }
