use Rattle.std.proofs.Common.{◌∙◌, ap}
use Rattle.lb_model.specs.declared.place.Got.TheVariants.{Tok as GotTok, End as GotEnd, Fault as GotFault}
use Rattle.lb_model.specs.Configs.{asked}
use Rattle.lb_model_expansion.specs.Expansion.{got_met}
use Rattle.lb_expand.specs.Views.{config}
use Rattle.lb_expand.proofs.PassLemmas.{at-fault, gets-passes, performs-after, performs-passed}
use Rattle.lb_expand.proofs.feeder.Feeder.meet.Goals as goal

pub returns-in-Ok-Some-clause-performs : goal.returns-in-Ok-Some-clause-performs
returns-in-Ok-Some-clause-performs g c =
    let C = g.C.Cells in
    let e = c.in-Ok-Some.ensures in
    performs-after c.meet_token.result e.told.narrows
    (
    gets-passes C c.ends_pass-passes.result (GotTok c.in-Ok-Some.tok) got_met e.told c.ends_pass-passes.ensures (λ p h. e.ok p h ∙ ap (λ o. record { got = asked o; next = config p.world (C.meaning c.take.new.cells p) c.take.new.desk }) c.in-Ok-Some.field-0-is) e.notes e.groups
    )
    e.told.made e.told.loan c.meet_token.ensures.performs

pub returns-in-Ok-None-clause-performs : goal.returns-in-Ok-None-clause-performs
returns-in-Ok-None-clause-performs g c =
    let C = g.C.Cells in
    let e = c.in-Ok-None.ensures in
    performs-after c.meet_end.result e.told.narrows
    (
    gets-passes C c.ends_pass-passes.result GotEnd got_met e.told c.ends_pass-passes.ensures (λ p h. e.ok p h ∙ ap (λ o. record { got = asked o; next = config p.world (C.meaning c.take.new.cells p) c.take.new.desk }) c.in-Ok-None.field-0-is) e.notes e.groups
    )
    e.told.made e.told.loan c.meet_end.ensures.performs

pub returns-in-Err-Fault-clause-performs : goal.returns-in-Err-Fault-clause-performs
returns-in-Err-Fault-clause-performs g c =
    let C = g.C.Cells in
    let e = c.in-Err-Fault.ensures in
    performs-passed e.told.narrows
    (
    gets-passes C c.ends_pass-passes.result (GotFault c.in-Err-Fault.kind) got_met e.told c.ends_pass-passes.ensures (at-fault _ _ c.in-Err-Fault.kind c.in-Err-Fault.field-0-is e.fault)
    (at-fault _ _ c.in-Err-Fault.kind c.in-Err-Fault.field-0-is e.notes_on_fault) e.groups
    )
    e.told.made e.told.loan
