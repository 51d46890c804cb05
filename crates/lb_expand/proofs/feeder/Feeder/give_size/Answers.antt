use Rattle.std.proofs.Common.{refl}
use Rattle.lb_expand.proofs.CloseLemmas.{closes-after}
use Rattle.lb_expand.proofs.FontLemmas.{measure-passes}
use Rattle.lb_expand.proofs.feeder.Feeder.give_size.Goals as goal

pub returns-clause-closes : goal.returns-clause-closes
returns-clause-closes g c =
    let e = c.in_ok-measured.ensures in
    closes-after c.give_measured.result e.told.narrows
    (λ more. measure-passes g.C.Cells c.in_ok-measured.measured c.args.want c.args.scan.kind c.args.purpose c.args.scan.given more e.told e.size e.notes) (λ p h. refl) e.told.made e.told.loan
    c.give_measured.ensures.closes
