use Rattle.lb_engine.proofs.NestLemmas.{nest_leads_at}
use Rattle.lb_engine.proofs.paragraphs.put_vertical_glue.Goals as goal

pub returns : goal.returns
returns g c = record { goes = nest_leads_at c.put_vertical_glue.result c.put_vertical_glue.ensures.goes }
