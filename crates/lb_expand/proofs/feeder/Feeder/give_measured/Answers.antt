use Rattle.lb_expand.specs.Measures.{measured_as}
use Rattle.lb_expand.proofs.CloseLemmas.{closes-as}
use Rattle.lb_expand.proofs.feeder.Feeder.give_measured.Goals as goal

pub returns-in-Size-clause-closes : goal.returns-in-Size-clause-closes
returns-in-Size-clause-closes g c = closes-as (λ m. measured_as m c.args.scan.kind c.args.purpose c.args.scan.given) c.scan_quantity.result c.in-Size.is c.scan_quantity.ensures.closes
