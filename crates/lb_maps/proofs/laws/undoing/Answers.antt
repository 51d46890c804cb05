use Rattle.std.proofs.Common.{◌≡◌, Bool, true, false, cond, None, Some, map, refl, ap, ◌∷◌, ◌∙◌}
use Rattle.lb_values.specs.Cells.{cell_eq}
use Rattle.lb_values.proofs.SameCells.{cell_eq-refl}
use Rattle.lb_values.specs.Kept.{put, void_save, undone}
use Rattle.lb_values.specs.declared.cell.Cell.{Cell}
use Rattle.lb_maps.proofs.Marks.{put-same}
use Rattle.lb_maps.proofs.laws.undoing.Goals as goal

-- a cell that is put twice holds what was put last
twice : {X : Type 0} (b : Bool) (x y z : X) → cond b x (cond b y z) ≡ cond b x z
twice true x y z = refl
twice false x y z = refl

put-twice : {X : Type 0} (cell : Cell) (x y : X) (f : Cell → X) → put cell x (put cell y f) ≡ put cell x f
put-twice cell x y f i q = twice (cell_eq cell q) x y (f q) i

pub returns-clause-at_once : goal.returns-clause-at_once
returns-clause-at_once g c cell k i = record { now = put-same cell (k.now cell) k.now refl i; saves = k.saves }

pub returns-clause-local : goal.returns-clause-local
returns-clause-local g c cell value k i =
    record { now = (put-twice cell (k.now cell) value k.now ∙ put-same cell (k.now cell) k.now refl) i; saves = k.saves }

pub returns-clause-global : goal.returns-clause-global
returns-clause-global g c cell value k =
    ap (λ b. undone (record { now = put cell value k.now; saves = cond b None (Some (cell, k.now cell)) ∷ map (void_save cell) k.saves })) (cell_eq-refl cell)
