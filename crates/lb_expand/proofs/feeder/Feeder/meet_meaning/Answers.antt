use Rattle.lb_model.specs.Configs.{looks_of_meaning, meaning_now}
use Rattle.lb_model_expansion.specs.Expansion.{met_as}
use Rattle.lb_expand.proofs.PassLemmas.{look-passes, performs-after}
use Rattle.lb_expand.proofs.feeder.Feeder.meet_meaning.Goals as goal

pub returns-clause-performs : goal.returns-clause-performs
returns-clause-performs g c =
    let e = c.in_ok-meaning.ensures in
    performs-after c.meet_as.result e.told.narrows
    (look-passes g.C.Cells (looks_of_meaning c.args.tok) (λ d. meaning_now d c.args.tok) (λ m d. met_as m c.args.tok d) c.in_ok-meaning.meaning e.told e.notes e.value) e.told.made e.told.loan c.meet_as.ensures.performs
