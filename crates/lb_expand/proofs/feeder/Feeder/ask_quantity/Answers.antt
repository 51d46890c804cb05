use Rattle.std.proofs.Common.{[]}
use Rattle.lb_model.specs.declared.open.ReadingKind.TheVariants as reading
use Rattle.lb_model.specs.Configs.{looks_of_meaning, meaning_now}
use Rattle.lb_model_expansion.specs.Expansion.{internal_given, internal_met}
use Rattle.lb_expand.proofs.PassLemmas.{look-passes, performs-after}
use Rattle.lb_expand.proofs.feeder.Feeder.ask_quantity.Goals as goal

pub returns-clause-performs : goal.returns-clause-performs
returns-clause-performs g c =
    let e = c.in_ok-meaning.ensures in
    let tok = c.args.tok.now in
    performs-after c.ask_quantity_of.result e.told.narrows
    (look-passes g.C.Cells (looks_of_meaning tok) (λ d. meaning_now d tok) (λ m d. internal_met m reading.Quantity [] (internal_given d.readings) d) c.in_ok-meaning.meaning e.told e.notes e.value) e.told.made
    e.told.loan c.ask_quantity_of.ensures.performs
