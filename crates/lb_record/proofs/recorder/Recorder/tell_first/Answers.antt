use Rattle.std.proofs.Common.{◌≡◌, ◌∙◌, ap, sym}
use Rattle.std.specs.Prelude.{unwrap_or}
use Rattle.lb_values.specs.declared.value.Value.TheVariants.{Absent}
use Rattle.lb_model.specs.Settings.{look}
use Rattle.lb_cells.specs.StateCells.{told_state}
use Rattle.lb_record.proofs.Overlaid.{told-stored}
use Rattle.lb_record.proofs.recorder.Recorder.tell_first.Goals as goal

pub note-requires-clause-holds : goal.note-requires-clause-holds
note-requires-clause-holds c =
    let r = c.self.inside in
    let cell = c.args.cell.now in
    ap (λ v. look v.world (told_state v.guess) cell) (sym c.self.view_is)
    ∙ c.in_ok-value.ensures (told_state r.guess.now) (told-stored r.guess.now cell ∙ ap (λ o. unwrap_or o Absent) (sym c.stored.ensures))
    ∙ sym c.in_ok-clone.ensures.cases

pub returns-clause-value : goal.returns-clause-value
returns-clause-value c =
    let r = c.self.inside in
    let cell = c.args.cell.now in
    ap (λ v. look v.world (told_state v.guess) cell) (sym c.self.view_is)
    ∙ c.in_ok-value.ensures (told_state r.guess.now) (told-stored r.guess.now cell ∙ ap (λ o. unwrap_or o Absent) (sym c.stored.ensures))
