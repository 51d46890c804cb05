use Rattle.lb_model_expansion.specs.Expansion.{end_met}
use Rattle.lb_expand.specs.Opens.{reading_of}
use Rattle.lb_expand.proofs.CloseLemmas.{hands-performs}
use Rattle.lb_expand.proofs.feeder.Feeder.end_to.Goals as goal

pub returns-clause-performs : goal.returns-clause-performs
returns-clause-performs g c =
    let r = reading_of c.args.opened in
    hands-performs (end_met r.kind r.given) c.in_ok-closed.closed c.close.result c.in_ok-closed.ensures.closes c.close.ensures.performs
