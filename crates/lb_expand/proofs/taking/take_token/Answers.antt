use Rattle.std.proofs.Common.{◌∙◌, ap}
use Rattle.lb_model.specs.Configs.{asked}
use Rattle.lb_model.specs.declared.place.Got.TheVariants.{Tok as GotTok, End as GotEnd, Fault as GotFault}
use Rattle.lb_expand.specs.Views.{config}
use Rattle.lb_expand.proofs.PassLemmas.{at-fault, takes-passes}
use Rattle.lb_expand.proofs.taking.take_token.Goals as goal

pub returns-in-Ok-Some-clause-taken : goal.returns-in-Ok-Some-clause-taken
returns-in-Ok-Some-clause-taken g c =
    λ next.
    let C = g.C.Cells in
    let e = c.in-Ok-Some.ensures in
    takes-passes C c.ends_pass-passes.result (GotTok c.in-Ok-Some.tok) next e.told c.ends_pass-passes.ensures (λ p h. e.ok p h ∙ ap (λ o. record { got = asked o; next = config p.world (C.meaning c.take.new.cells p) c.take.new.desk }) c.in-Ok-Some.field-0-is) e.notes e.groups

pub returns-in-Ok-None-clause-taken : goal.returns-in-Ok-None-clause-taken
returns-in-Ok-None-clause-taken g c =
    λ next.
    let C = g.C.Cells in
    let e = c.in-Ok-None.ensures in
    takes-passes C c.ends_pass-passes.result GotEnd next e.told c.ends_pass-passes.ensures (λ p h. e.ok p h ∙ ap (λ o. record { got = asked o; next = config p.world (C.meaning c.take.new.cells p) c.take.new.desk }) c.in-Ok-None.field-0-is) e.notes e.groups

pub returns-in-Err-Fault-clause-taken : goal.returns-in-Err-Fault-clause-taken
returns-in-Err-Fault-clause-taken g c =
    λ next.
    let C = g.C.Cells in
    let e = c.in-Err-Fault.ensures in
    takes-passes C c.ends_pass-passes.result (GotFault c.in-Err-Fault.kind) next e.told c.ends_pass-passes.ensures (at-fault _ _ c.in-Err-Fault.kind c.in-Err-Fault.field-0-is e.fault) (at-fault _ _ c.in-Err-Fault.kind c.in-Err-Fault.field-0-is e.notes_on_fault) e.groups
