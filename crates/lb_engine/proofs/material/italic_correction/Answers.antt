use Rattle.lb_engine.proofs.NestLemmas.{nest_leads}
use Rattle.lb_engine.proofs.material.italic_correction.Goals as goal

pub returns : goal.returns
returns g c = record { goes = nest_leads c.italic_correction.result c.italic_correction.ensures.goes }
