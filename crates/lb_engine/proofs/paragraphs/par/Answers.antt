use Rattle.lb_engine.proofs.NestLemmas.{nest_leads_at}
use Rattle.lb_engine.proofs.paragraphs.par.Goals as goal

pub returns : goal.returns
returns g c = record { goes = nest_leads_at c.par.result c.par.ensures.goes }
