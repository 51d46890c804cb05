use Rattle.std.proofs.Common.{◌≡◌, ◌∙◌, ◌++◌, ◌∷◌, [], Some, None, ap, length, refl, subst, sym}
use Rattle.lb_values.specs.Kept.{put}
use Rattle.lb_model.specs.Settings.{look}
use Rattle.lb_maps.specs.CellMap.{at}
use Rattle.lb_maps.proofs.Saved.{held_now-put}
use Rattle.lb_cells.specs.StateCells.{told_state}
use Rattle.lb_record.specs.declared.known.Known.{Known}
use Rattle.lb_record.specs.Recorded.{reads_of, setting_of}
use Rattle.lb_record.specs.Recording.{IsRecording, known_of, unknown}
use Rattle.lb_record.proofs.Noted.{pairs-of}
use Rattle.lb_record.proofs.Recordings.{recording-known, recording-more}
use Rattle.lb_record.proofs.recorder.Recorder.note.Goals as goal

pub invariant_of-self : goal.invariant_of-self
invariant_of-self c =
    let r = c.self.inside in
    recording-known r.world.now r.guess.now r.known c.make_entry.new.self r.reads r.writes c.make_entry.ensures.same c.self.invariant

pub invariant_of-self-in_err-push : goal.invariant_of-self-in_err-push
invariant_of-self-in_err-push c =
    let r = c.self.inside in
    subst (λ reads. IsRecording r.world.now r.guess.now c.make_entry.new.self reads r.writes) (sym c.in_err-push.ensures.err)
    (recording-known r.world.now r.guess.now r.known c.make_entry.new.self r.reads r.writes c.make_entry.ensures.same c.self.invariant)

pub invariant_of-self-2 : goal.invariant_of-self-2
invariant_of-self-2 c =
    let r = c.self.inside in
    let cell = c.args.cell.now in
    let k : Known = record { place = Some (length r.reads); written = (known_of r.known cell).written } in
    let same : known_of c.replace.new.self ≡ put cell k (known_of r.known) =
    held_now-put unknown c.make_entry.new.self c.replace.new.self cell _ c.replace.ensures
    ∙ (λ i. put cell (record { place = Some (c.len-place.ensures i); written = (c.known_of-written.ensures i).written }) (c.make_entry.ensures.same i)) in
    let none : at r.reads cell ≡ None = ap (λ l. at l cell) (sym (pairs-of (setting_of r.world.now r.guess.now) r.reads c.self.invariant.holds) ∙ ap reads_of c.self.view_is) ∙ c.requires.new in
    let tells : look r.world.now (told_state r.guess.now) cell ≡ c.args.value = ap (λ v. look v.world (told_state v.guess) cell) c.self.view_is ∙ c.requires.holds in
    let pushed : c.push.new.self ≡ r.reads ++ (cell, c.args.value) ∷ [] = c.in_ok-push.ensures.ok ∙ ap (λ d. r.reads ++ (d, c.args.value) ∷ []) c.in_ok-key.ensures.cases in
    subst (λ reads. IsRecording r.world.now r.guess.now c.replace.new.self reads r.writes) (sym pushed)
    (recording-more r.world.now r.guess.now r.known c.replace.new.self r.reads r.writes cell c.args.value k none same refl refl tells c.self.invariant)
