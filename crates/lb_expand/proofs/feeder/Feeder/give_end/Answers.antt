use Rattle.lb_model_expansion.specs.Expansion.{end_met}
use Rattle.lb_expand.specs.Opens.{reading_of}
use Rattle.lb_expand.proofs.CloseLemmas.{closes-as}
use Rattle.lb_expand.proofs.feeder.Feeder.give_end.Goals as goal

pub returns-in-Scan-clause-closes : goal.returns-in-Scan-clause-closes
returns-in-Scan-clause-closes g c = closes-as (λ o. end_met (reading_of o).kind (reading_of o).given) c.give_scan.result c.in-Scan.is c.give_scan.ensures.closes
