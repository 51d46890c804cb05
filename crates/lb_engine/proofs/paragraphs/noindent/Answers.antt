use Rattle.lb_engine.proofs.NestLemmas.{nest_leads}
use Rattle.lb_engine.proofs.paragraphs.noindent.Goals as goal

pub returns : goal.returns
returns g c = record { goes = nest_leads c.noindent.result c.noindent.ensures.goes }
