use Rattle.lb_model.specs.Configs.{looks_of_meaning, meaning_now}
use Rattle.lb_model_expansion.specs.Expansion.{handed}
use Rattle.lb_expand.proofs.PassLemmas.{look-passes, performs-after}
use Rattle.lb_expand.proofs.feeder.Feeder.pass_token.Goals as goal

pub returns-clause-performs : goal.returns-clause-performs
returns-clause-performs g c =
    let e = c.in_ok-meaning.ensures in
    performs-after c.hand.result e.told.narrows
    (look-passes g.C.Cells (looks_of_meaning c.args.tok) (λ d. meaning_now d c.args.tok) (λ m d. handed m c.args.tok d.readings d) c.in_ok-meaning.meaning e.told e.notes e.value) e.told.made e.told.loan c.hand.ensures.performs
