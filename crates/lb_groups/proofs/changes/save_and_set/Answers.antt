use Rattle.std.proofs.Common.{◌∙◌, ap}
use Rattle.std.specs.Option.{option_map}
use Rattle.lb_values.specs.Kept.{undone}
use Rattle.lb_model.specs.Settings.{noted_undo}
use Rattle.lb_groups.proofs.StackedLemmas.{undone-saved, notes-undone-saved}
use Rattle.lb_groups.proofs.changes.save_and_set.Goals as goal

pub returns-in-Err-clause-err : goal.returns-in-Err-clause-err
returns-in-Err-clause-err g c =
    λ p h.
    let set = c.put_back.ensures.narrows p h in
    let saved = c.set.ensures.narrows p set in
    c.put_back.ensures.undone p h ∙ ap undone (c.in-Err.ensures.same p set ∙ c.in_ok-save.ensures.saved p saved) ∙ undone-saved c.args.cell.now (g.C.Cells.meaning c.args.cells.now p)

pub returns-in-Err-clause-notes_on_err : goal.returns-in-Err-clause-notes_on_err
returns-in-Err-clause-notes_on_err g c =
    c.put_back.ensures.notes ∙ ap (option_map noted_undo) (c.in-Err.ensures.notes_on_err ∙ c.in_ok-save.ensures.notes) ∙ notes-undone-saved c.args.cell.now (g.C.Cells.notes c.args.cells.now)
