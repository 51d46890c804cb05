use Rattle.std.proofs.Common.{◌≡◌, ◌++◌, ◌∙◌, Bool, true, false, cond, List, [], ◌∷◌, refl, ap}
use Rattle.std.specs.List.{list_any}
use Rattle.lb_values.specs.declared.cell.Cell.{Cell}
use Rattle.lb_values.specs.Cells.{cell_eq}
use Rattle.lb_model.specs.Stacked.{StackedNotes, looked, looked_all}
use Rattle.lb_model_engine.specs.Laws.{Begun}
use Rattle.lb_model_engine.proofs.laws.told_stays_told.Goals as goal

no_more : (cells : List Cell) → cells ≡ cells ++ []
no_more [] = refl
no_more (cell ∷ cells) = ap (λ rest. cell ∷ rest) (no_more cells)

joined : (xs ys zs : List Cell) → (xs ++ ys) ++ zs ≡ xs ++ (ys ++ zs)
joined [] ys zs = refl
joined (x ∷ xs) ys zs = ap (λ rest. x ∷ rest) (joined xs ys zs)

same : (cells : List Cell) → Begun cells cells
same cells = record { rest = []; is = no_more cells }

-- one more, unless it was told
with_one : (told : Bool) (cell : Cell) (cells : List Cell) → Begun cells (cond told cells (cells ++ cell ∷ []))
with_one true cell cells = same cells
with_one false cell cells = record { rest = cell ∷ []; is = refl }

unless : (written : Bool) (n m : StackedNotes) → Begun n.told m.told → Begun n.told (cond written n m).told
unless true n m b = same n.told
unless false n m b = b

one_look : (cell : Cell) (n : StackedNotes) → Begun n.told (looked cell n).told
one_look cell n = unless (n.written.now cell) n _ (with_one (list_any (cell_eq cell) n.told) cell n.told)

both : (xs ys zs : List Cell) → Begun xs ys → Begun ys zs → Begun xs zs
both xs ys zs b d = record { rest = b.rest ++ d.rest; is = d.is ∙ ap (λ cells. cells ++ d.rest) b.is ∙ joined xs b.rest d.rest }

looks : (cells : List Cell) (n : StackedNotes) → Begun n.told (looked_all cells n).told
looks [] n = same n.told
looks (cell ∷ cells) n = both _ _ _ (one_look cell n) (looks cells (looked cell n))

pub returns-clause-looks : goal.returns-clause-looks
returns-clause-looks c = λ cells e extends n. both _ _ _ (looks cells n) (extends (looked_all cells n))

pub returns-clause-changes : goal.returns-clause-changes
returns-clause-changes c = λ reach cell v w n. same n.told
