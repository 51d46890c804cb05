use Rattle.std.proofs.Common.{rules, ◌∙◌, ◌∷◌, [], ap, subst, sym}
use Rattle.std.proofs.lemmas.List.Elements.{All-append}
use Rattle.std.specs.List.{All}
use Rattle.lb_model_paper.specs.FoundFonts.{Found}
use Rattle.lb_fonts.specs.Shelves.{AreRight, IsRight, Kept}
use Rattle.lb_fonts.proofs.shelf.choose_new.Goals as goal

All-one : {X : Type 0} (P : X → Type 0) (x : X) → P x → All P (x ∷ [])
All-one P x h = search rules

pub returns-clause-right : goal.returns-clause-right
returns-clause-right g c =
    λ p h.
    let kept : Kept = record { key = c.args.key.now; file = c.in_ok-file.file; font = c.in_ok-clone.field-0 } in
    let read = c.in_ok-file.ensures.right p h in
    subst (AreRight p.world) (sym c.in_ok-keep.ensures.ok)
    (All-append (IsRight p.world) c.args.shelf.now (kept ∷ []) (c.requires.right p (c.in_ok-file.ensures.told.narrows p h))
    (All-one (IsRight p.world) kept (record { file = read.file; font = read.font ∙ ap Found (sym c.in_ok-font.ensures) ∙ ap Found (sym c.in_ok-clone.ensures.cases) })))
