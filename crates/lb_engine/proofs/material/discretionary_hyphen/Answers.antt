use Rattle.lb_engine.proofs.NestLemmas.{nest_leads}
use Rattle.lb_engine.proofs.material.discretionary_hyphen.Goals as goal

pub returns : goal.returns
returns g c = record { goes = nest_leads c.discretionary_hyphen.result c.discretionary_hyphen.ensures.goes }
