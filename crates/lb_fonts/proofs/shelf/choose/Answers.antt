use Rattle.std.proofs.Common.{◌∙◌, ◌∷◌, [], ap}
use Rattle.std.specs.Option.{option_map}
use Rattle.lb_values.specs.declared.cell.Cell.TheVariants.{Prefix, File}
use Rattle.lb_model.specs.Settings.{noted_all}
use Rattle.lb_fonts.specs.Shelves.{file_by}
use Rattle.lb_fonts.proofs.shelf.choose.Goals as goal

pub returns-in-Some-clause-notes : goal.returns-in-Some-clause-notes
returns-in-Some-clause-notes g c =
    λ p h.
    let e = c.in-Some.ensures in
    let right = e.right p.world (c.requires.right p (c.in_ok-look_at.ensures.told.narrows p h)) in
    c.in_ok-look_at.ensures.notes
    ∙ ap (λ f. option_map (noted_all (Prefix ∷ f ∷ [])) (g.C.Cells.notes c.args.cells.now)) (right.file ∙ ap (λ k. File (file_by p.world k)) e.key)
