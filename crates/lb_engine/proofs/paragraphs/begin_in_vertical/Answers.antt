use Rattle.lb_engine.proofs.NestLemmas.{nest_leads}
use Rattle.lb_engine.proofs.paragraphs.begin_in_vertical.Goals as goal

pub returns : goal.returns
returns g c = record { goes = nest_leads c.begin_in_vertical.result c.begin_in_vertical.ensures.goes }
