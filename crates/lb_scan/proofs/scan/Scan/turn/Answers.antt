use Rattle.std.proofs.Common.{sym, subst}
use Rattle.lb_scan.specs.Stages.{Stands}
use Rattle.lb_scan.proofs.StandsLemmas.{stands-on}
use Rattle.lb_scan.proofs.scan.Scan.turn.Goals as goal

pub invariant_of-self : goal.invariant_of-self
invariant_of-self c =
    let s = c.self.inside in
    let turned = c.goes_on.ensures in
    subst (λ given. Stands s.kind given s.kept c.goes_on.new.stage) (sym c.and-past.ensures)
    (stands-on s.kind s.past.items s.kept s.stage c.goes_on.new.stage c.args.given c.self.invariant (turned.next c.if-goes_on.true) (turned.within c.if-goes_on.true))
