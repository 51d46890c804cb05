use Rattle.std.proofs.Common.{◌≡◌, ◌∙◌, true}
use Rattle.lb_model.specs.Stacked.{stacked, stacked_notes}
use Rattle.lb_groups.specs.Open.{is_open}
use Rattle.lb_groups.proofs.StackedLemmas.{stacked-saved, notes-saved}
use Rattle.lb_groups.proofs.changes.assign_local.Goals as goal

pub returns-clause-ok : goal.returns-clause-ok
returns-clause-ok g c =
    let within : is_open c.args.groups.now ≡ true = cc in
    λ p h.
    (λ i. stacked (c.count_save.ensures i) (c.in_ok-save_and_set.ensures.ok p h i))
    ∙ stacked-saved c.args.groups.now c.args.cell.now c.args.value (g.C.Cells.meaning c.args.cells.now p) within

pub returns-clause-notes : goal.returns-clause-notes
returns-clause-notes g c =
    let within : is_open c.args.groups.now ≡ true = cc in
    (λ i. stacked_notes (c.count_save.ensures i) (c.in_ok-save_and_set.ensures.notes i)) ∙ notes-saved c.args.groups.now c.args.cell.now (g.C.Cells.notes c.args.cells.now) within
