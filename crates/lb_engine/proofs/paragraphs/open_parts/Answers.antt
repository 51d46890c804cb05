use Rattle.lb_engine.proofs.NestLemmas.{nest_leads}
use Rattle.lb_engine.proofs.paragraphs.open_parts.Goals as goal

pub returns : goal.returns
returns g c = record { goes = nest_leads c.open_parts.result (c.open_parts.ensures.goes c.args.engine.now.desk.left) }
