use Rattle.std.proofs.Common.{◌∙◌, ap, subst, sym, Some, None}
use Rattle.lb_maps.specs.CellMap.{at, held_now}
use Rattle.lb_record.specs.Recorded.{AgreesWith, notes_of, reads_of, setting_of}
use Rattle.lb_record.proofs.Noted.{agrees-before, agrees-last}
use Rattle.lb_record.proofs.Overlaid.{look-remembered, look-under, notes-again, notes-told, nothing-noted, nothing-written}
use Rattle.lb_record.proofs.recorder.RecorderCells.get.Goals as goal

pub returns-in_ok-copied-in-Some-clause-value : goal.returns-in_ok-copied-in-Some-clause-value
returns-in_ok-copied-in-Some-clause-value c = λ p h. look-remembered c.args.self.now p c.args.cell.now _ c.remembered.ensures.settable (sym c.in-Some.ensures.value) h ∙ c.in_ok-copied-in-Some.ensures

pub returns-in_ok-copied-in-Some-clause-notes : goal.returns-in_ok-copied-in-Some-clause-notes
returns-in_ok-copied-in-Some-clause-notes c = ap Some (notes-again c.args.self.now c.args.cell.now _ (sym c.in-Some.ensures.value))

pub returns-in_ok-tell_first-in-None-clause-narrows : goal.returns-in_ok-tell_first-in-None-clause-narrows
returns-in_ok-tell_first-in-None-clause-narrows c = λ p h.
    let r = c.args.self.now in
    agrees-before (setting_of r.world r.guess) p r.told c.args.cell.now (subst (λ v. AgreesWith (reads_of v) p) c.in_ok-tell_first-in-None.ensures.ok h)

pub returns-in_ok-tell_first-in-None-clause-value : goal.returns-in_ok-tell_first-in-None-clause-value
returns-in_ok-tell_first-in-None-clause-value c = λ p h.
    let r = c.args.self.now in
    let cell = c.args.cell.now in
    look-under r p cell (nothing-written (held_now None r.writes.entries cell) (at (reads_of r) cell) (sym c.in-None.ensures.value))
    ∙ agrees-last (setting_of r.world r.guess) p r.told cell (subst (λ v. AgreesWith (reads_of v) p) c.in_ok-tell_first-in-None.ensures.ok h)
    ∙ c.in_ok-tell_first-in-None.ensures.value

pub returns-in_ok-tell_first-in-None-clause-notes : goal.returns-in_ok-tell_first-in-None-clause-notes
returns-in_ok-tell_first-in-None-clause-notes c =
    let r = c.args.self.now in
    let cell = c.args.cell.now in
    let none = sym c.in-None.ensures.value in
    ap Some
    (
    ap notes_of c.in_ok-tell_first-in-None.ensures.ok
    ∙ notes-told r cell (nothing-written (held_now None r.writes.entries cell) (at (reads_of r) cell) none) (nothing-noted (held_now None r.writes.entries cell) (at (reads_of r) cell) none)
    )
