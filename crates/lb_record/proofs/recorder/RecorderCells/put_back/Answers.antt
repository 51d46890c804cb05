use Rattle.std.proofs.Common.{◌∙◌, ap, map, Some, None}
use Rattle.lb_values.specs.Kept.{undone}
use Rattle.lb_model.specs.Settings.{noted_undo}
use Rattle.lb_record.specs.Recorded.{meaning_over, notes_of}
use Rattle.lb_record.proofs.Overlaid.{notes-undone, over-undone}
use Rattle.lb_record.proofs.Recordings.{recording-undone}
use Rattle.lb_record.proofs.recorder.RecorderCells.put_back.Goals as goal

pub invariant_of-self : goal.invariant_of-self
invariant_of-self c =
    let r = c.self.inside in
    recording-undone r.world.now r.guess.now r.known r.reads r.writes c.put_back.new.self (c.put_back.ensures None) c.self.invariant

pub returns-clause-undone : goal.returns-clause-undone
returns-clause-undone c = λ p h.
    over-undone p.state c.self.inside.writes c.put_back.new.self (c.put_back.ensures None) ∙ ap (λ v. undone (meaning_over v p.state)) c.self.view_is

pub returns-clause-notes : goal.returns-clause-notes
returns-clause-notes c =
    let r = c.self.inside in
    ap Some
    (
    notes-undone (record { world = r.world.now; guess = r.guess.now; told = map (λ e. e.0) r.reads; writes = r.writes }) c.put_back.new.self (c.put_back.ensures None)
    ∙ ap (λ v. noted_undo (notes_of v)) c.self.view_is
    )
