use Rattle.std.proofs.Common.{◌∙◌, ap, refl, sym}
use Rattle.lb_base.specs.declared.fault.Kind.TheVariants.{Runaway}
use Rattle.lb_model.specs.Configs.{asked}
use Rattle.lb_model.specs.declared.place.Got.TheVariants.{Tok as GotTok, End as GotEnd, Fault as GotFault}
use Rattle.lb_model_nest.specs.declared.turn.Went.TheVariants.{Stopped}
use Rattle.lb_expand.specs.Views.{config}
use Rattle.lb_expand.proofs.PassLemmas.{at-fault}
use Rattle.lb_engine.proofs.RowLemmas.{leads-at}
use Rattle.lb_engine.proofs.UnexpandedLemmas.{taking-leads}
use Rattle.lb_engine.specs.Reads.{behind_reading}
use Rattle.lb_engine.specs.declared.reading.Reading.TheVariants as reading
use Rattle.lb_engine.proofs.unexpanded.token.Goals as goal

pub returns-in-Ok-Some : goal.returns-in-Ok-Some
returns-in-Ok-Some g c =
    let C = g.C.Cells in
    let s = c.in-Ok-Some in
    let e = s.ensures in
    let feed = c.plain.new.self in
    record {
      leads = λ row.
          leads-at (c.cells-1.given.1 (sym (ap (λ o. o.cells) e.origin)))
          (
          taking-leads C row (behind_reading row) (GotTok s.tok) (reading.Of s.tok) c.in_ok-make_ready.ensures c.requires.holds
          (record { narrows = e.narrows; stands = e.stands; groups = ap (λ o. o.groups) e.origin; made = ap (λ o. o.made) e.origin; loan = ap (λ o. o.inner) e.origin })
          (λ p h. e.ok p h ∙ ap (λ o. record { got = asked o; next = config p.world (C.meaning feed.cells.now p) feed.desk.now }) s.field-0-is)
          e.notes refl
          );
    }

pub returns-in-Ok-None : goal.returns-in-Ok-None
returns-in-Ok-None g c =
    let C = g.C.Cells in
    let s = c.in-Ok-None in
    let e = s.ensures in
    let feed = c.plain.new.self in
    record {
      leads = λ row.
          leads-at (c.cells-1.given.1 (sym (ap (λ o. o.cells) e.origin)))
          (
          taking-leads C row (behind_reading row) GotEnd (reading.Stops (Stopped Runaway)) c.in_ok-make_ready.ensures c.requires.holds
          (record { narrows = e.narrows; stands = e.stands; groups = ap (λ o. o.groups) e.origin; made = ap (λ o. o.made) e.origin; loan = ap (λ o. o.inner) e.origin })
          (λ p h. e.ok p h ∙ ap (λ o. record { got = asked o; next = config p.world (C.meaning feed.cells.now p) feed.desk.now }) s.field-0-is)
          e.notes refl
          );
    }

pub returns-in-Err-Fault : goal.returns-in-Err-Fault
returns-in-Err-Fault g c =
    let C = g.C.Cells in
    let s = c.in-Err-Fault in
    let e = s.ensures in
    record {
      leads = λ row.
          leads-at (c.cells-1.given.1 (sym (ap (λ o. o.cells) e.origin)))
          (
          taking-leads C row (behind_reading row) (GotFault s.kind) (reading.Stops (Stopped s.kind)) c.in_ok-make_ready.ensures c.requires.holds
          (record { narrows = e.narrows; stands = e.stands; groups = ap (λ o. o.groups) e.origin; made = ap (λ o. o.made) e.origin; loan = ap (λ o. o.inner) e.origin })
          (at-fault _ _ s.kind s.field-0-is e.fault) (at-fault _ _ s.kind s.field-0-is e.notes_on_fault) refl
          );
    }
