use Rattle.lb_engine.proofs.NestLemmas.{nest_leads}
use Rattle.lb_engine.proofs.paragraphs.clear_page.Goals as goal

pub returns : goal.returns
returns g c = record { goes = nest_leads c.clear_page.result c.clear_page.ensures.goes }
