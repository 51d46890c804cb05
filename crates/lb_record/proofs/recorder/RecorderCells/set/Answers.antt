use Rattle.std.proofs.Common.{◌∙◌, ap, map, Some, None}
use Rattle.lb_values.specs.Kept.{changed}
use Rattle.lb_model.specs.Settings.{noted_change}
use Rattle.lb_maps.specs.CellMap.{kept}
use Rattle.lb_record.specs.Recorded.{meaning_over, notes_of}
use Rattle.lb_record.proofs.Overlaid.{notes-changed, over-changed}
use Rattle.lb_record.proofs.Recordings.{marked-there, recording-changed, recording-kept, recording-known, recording-marked}
use Rattle.lb_record.proofs.recorder.RecorderCells.set.Goals as goal

pub invariant_of-self : goal.invariant_of-self
invariant_of-self c =
    let r = c.self.inside in
    recording-known r.world.now r.guess.now r.known c.mark_written.new.known r.reads r.writes c.in_err-mark_written.ensures.err c.self.invariant

pub invariant_of-self-in_err-change : goal.invariant_of-self-in_err-change
invariant_of-self-in_err-change c =
    let r = c.self.inside in
    let known = c.mark_written.new.known in
    recording-kept r.world.now r.guess.now known r.reads r.writes c.change.new.self (ap (kept None) c.in_err-change.ensures.err)
    (recording-marked r.world.now r.guess.now r.known known r.reads r.writes c.args.cell.now c.in_ok-mark_written.ensures.ok c.self.invariant)

pub invariant_of-self-2 : goal.invariant_of-self-2
invariant_of-self-2 c =
    let r = c.self.inside in
    let known = c.mark_written.new.known in
    let marked = c.in_ok-mark_written.ensures.ok in
    recording-changed r.world.now r.guess.now known r.reads r.writes c.change.new.self c.args.reach c.args.cell.now c.args.value c.requires.settable (marked-there r.known known c.args.cell.now marked)
    (c.in_ok-change.ensures.ok None) (recording-marked r.world.now r.guess.now r.known known r.reads r.writes c.args.cell.now marked c.self.invariant)

pub returns-clause-changed : goal.returns-clause-changed
returns-clause-changed c = λ p h.
    over-changed p.state c.self.inside.writes c.change.new.self c.args.reach c.args.cell.now c.args.value (c.in_ok-change.ensures.ok None)
    ∙ ap (λ v. changed c.args.reach c.args.cell.now c.args.value (meaning_over v p.state)) c.self.view_is

pub returns-clause-notes : goal.returns-clause-notes
returns-clause-notes c =
    let r = c.self.inside in
    ap Some
    (
    notes-changed (record { world = r.world.now; guess = r.guess.now; told = map (λ e. e.0) r.reads; writes = r.writes }) c.change.new.self c.args.reach c.args.cell.now c.args.value
    (c.in_ok-change.ensures.ok None) ∙ ap (λ v. noted_change c.args.reach c.args.cell.now (notes_of v)) c.self.view_is
    )
