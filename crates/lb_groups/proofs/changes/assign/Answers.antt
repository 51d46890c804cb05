use Rattle.std.proofs.Common.{◌∙◌, ap, sym}
use Rattle.std.specs.Option.{option_map}
use Rattle.lb_model.specs.Stacked.{stacked, stacked_notes, assigned, notes_assigned}
use Rattle.lb_groups.proofs.StackedLemmas.{stacked-global, notes-global}
use Rattle.lb_groups.proofs.changes.assign.Goals as goal

pub returns-in_ok-set-in-Global-clause-ok : goal.returns-in_ok-set-in-Global-clause-ok
returns-in_ok-set-in-Global-clause-ok g c =
    let old = g.C.Cells.meaning c.args.cells.now in
    λ p h.
    ap (stacked c.args.groups.now) (c.in_ok-set-in-Global.ensures.changed p h) ∙ stacked-global c.args.groups.now c.args.cell.now c.args.value (old p)
    ∙ ap (λ r. assigned r c.args.cell.now c.args.value (stacked c.args.groups.now (old p))) (sym c.in-Global.is)

pub returns-in_ok-set-in-Global-clause-notes : goal.returns-in_ok-set-in-Global-clause-notes
returns-in_ok-set-in-Global-clause-notes g c =
    let old = g.C.Cells.notes c.args.cells.now in
    ap (stacked_notes c.args.groups.now) c.in_ok-set-in-Global.ensures.notes ∙ notes-global c.args.groups.now c.args.cell.now old
    ∙ ap (λ r. option_map (notes_assigned r c.args.cell.now) (stacked_notes c.args.groups.now old)) (sym c.in-Global.is)
