use Rattle.std.proofs.Common.{◌∙◌, ap, map, Some}
use Rattle.lb_values.specs.Kept.{saved}
use Rattle.lb_model.specs.Settings.{noted_save}
use Rattle.lb_record.specs.Recorded.{meaning_over, notes_of}
use Rattle.lb_record.proofs.Overlaid.{notes-saved, over-saved}
use Rattle.lb_record.proofs.Recordings.{recording-saved}
use Rattle.lb_record.proofs.recorder.RecorderCells.save.Goals as goal

pub invariant_of-self-2 : goal.invariant_of-self-2
invariant_of-self-2 c =
    let r = c.self.inside in
    recording-saved r.world.now r.guess.now r.known r.reads r.writes c.save.new.self c.args.cell.now c.in_ok-save.ensures.ok c.self.invariant

pub returns-clause-saved : goal.returns-clause-saved
returns-clause-saved c = λ p h.
    over-saved p.state c.self.inside.writes c.save.new.self c.args.cell.now c.in_ok-save.ensures.ok ∙ ap (λ v. saved c.args.cell.now (meaning_over v p.state)) c.self.view_is

pub returns-clause-notes : goal.returns-clause-notes
returns-clause-notes c =
    let r = c.self.inside in
    ap Some
    (
    notes-saved (record { world = r.world.now; guess = r.guess.now; told = map (λ e. e.0) r.reads; writes = r.writes }) c.save.new.self c.args.cell.now c.in_ok-save.ensures.ok
    ∙ ap (λ v. noted_save c.args.cell.now (notes_of v)) c.self.view_is
    )
