use Rattle.lb_engine.proofs.NestLemmas.{nest_leads_at}
use Rattle.lb_engine.proofs.paragraphs.end_paragraph.Goals as goal

pub returns : goal.returns
returns g c = record { goes = nest_leads_at c.end_paragraph.result c.end_paragraph.ensures.goes }
