use Rattle.lb_engine.proofs.NestLemmas.{nest_leads}
use Rattle.lb_engine.proofs.paragraphs.leavevmode.Goals as goal

pub returns : goal.returns
returns g c = record { goes = nest_leads c.leavevmode.result c.leavevmode.ensures.goes }
