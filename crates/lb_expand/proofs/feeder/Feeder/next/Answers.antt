use Rattle.std.proofs.Common.{◌∙◌, ap, refl, sym}
use Rattle.lb_model.specs.declared.place.Got.TheVariants.{End as GotEnd, Fault as GotFault, Tok as GotTok}
use Rattle.lb_model.specs.Configs.{asked}
use Rattle.lb_model_expansion.specs.declared.expansion.Went.TheVariants.{Gave, Over, Stopped}
use Rattle.lb_expand.specs.Views.{config}
use Rattle.lb_expand.proofs.PassLemmas.{at-fault, performs-after, same-passes}
use Rattle.lb_expand.proofs.TurnLemmas.{character-given, end-met, gave-ends, over-ends, ran-begins, ran-ends, stopped-ends}
use Rattle.lb_expand.proofs.feeder.Feeder.next.Goals as goal

pub returns-then-is_character-clause-performs : goal.returns-then-is_character-clause-performs
returns-then-is_character-clause-performs g c =
    let C = g.C.Cells in
    let s = c.in-Ok-Some in
    let e = s.ensures in
    let none = c.is_empty.ensures.none c.if-not-is_empty.false in
    ran-ends C (GotTok s.tok) (Gave s.tok) e.told none (λ p h. e.ok p h ∙ ap (λ o. record { got = asked o; next = config p.world (C.meaning c.take.new.cells p) c.take.new.desk }) s.field-0-is) e.notes e.groups
    (gave-ends s.tok) (character-given C s.tok c.take.new.cells c.take.new.desk (sym c.is_character.ensures ∙ c.if-is_character.true) (e.readings ∙ none))

pub returns-in-Ok-Some-clause-performs : goal.returns-in-Ok-Some-clause-performs
returns-in-Ok-Some-clause-performs g c =
    let C = g.C.Cells in
    let s = c.in-Ok-Some in
    let e = s.ensures in
    let none = c.is_empty.ensures.none c.if-not-is_empty.false in
    let first = ran-begins C (GotTok s.tok) e.told none (λ p h. e.ok p h ∙ ap (λ o. record { got = asked o; next = config p.world (C.meaning c.take.new.cells p) c.take.new.desk }) s.field-0-is) e.notes e.groups in
    performs-after _ e.told.narrows first.2 e.told.made e.told.loan (c.next_from.ensures.performs first.0 first.1)

pub returns-in-Ok-None-clause-performs : goal.returns-in-Ok-None-clause-performs
returns-in-Ok-None-clause-performs g c =
    let C = g.C.Cells in
    let s = c.in-Ok-None in
    let e = s.ensures in
    let none = c.is_empty.ensures.none c.if-not-is_empty.false in
    ran-ends C GotEnd Over e.told none (λ p h. e.ok p h ∙ ap (λ o. record { got = asked o; next = config p.world (C.meaning c.take.new.cells p) c.take.new.desk }) s.field-0-is) e.notes e.groups
    over-ends (end-met C c.take.new.cells c.take.new.desk (e.readings ∙ none))

pub returns-in-Err-Fault-clause-performs : goal.returns-in-Err-Fault-clause-performs
returns-in-Err-Fault-clause-performs g c =
    let C = g.C.Cells in
    let s = c.in-Err-Fault in
    let e = s.ensures in
    let none = c.is_empty.ensures.none c.if-not-is_empty.false in
    ran-ends C (GotFault s.kind) (Stopped s.kind) e.told none (at-fault _ _ s.kind s.field-0-is e.fault) (at-fault _ _ s.kind s.field-0-is e.notes_on_fault) e.groups
    (stopped-ends s.kind) (same-passes C (λ d. refl))
