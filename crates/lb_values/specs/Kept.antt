-- What is kept at each cell, and the saves that stand on it.
use Rattle.std.specs.Prelude.{cond, List, [], ◌∷◌, map, Option, None, Some}
use Rattle.lb_values.specs.Cells.{cell_eq}
use Rattle.lb_values.specs.declared.cell.Cell.{Cell}
use Rattle.lb_values.specs.declared.reach.Reach.{Reach}
use Rattle.lb_values.specs.declared.reach.Reach.TheVariants.{Local, Global}

-- f, with x at the cell
abbrev pub put : {X : Type 0} → Cell → X → (Cell → X) → Cell → X
put cell x f d = cond (cell_eq cell d) x (f d)

-- a save: the cell and what it held, None where it is void
abbrev pub Save : Type 0 → Type 0
Save X = Option (Cell × X)

-- what each cell holds now, and the standing saves, the last one first
pub record Kept (X : Type 0) : Type 0 where
  pub now : Cell → X
  pub saves : List (Save X)

-- a save once its cell is changed globally
abbrev pub void_save : {X : Type 0} → Cell → Save X → Save X
void_save cell None = None
void_save cell (Some s) = cond (cell_eq cell s.0) None (Some s)

abbrev pub void_saves : {X : Type 0} → Reach → Cell → List (Save X) → List (Save X)
void_saves Local cell saves = saves
void_saves Global cell saves = map (void_save cell) saves

-- the cell holds x; a global change makes its saves void
abbrev pub changed : {X : Type 0} → Reach → Cell → X → Kept X → Kept X
changed reach cell x k = record { now = put cell x k.now; saves = void_saves reach cell k.saves }

-- one more save
abbrev pub saved : {X : Type 0} → Cell → Kept X → Kept X
saved cell k = record { now = k.now; saves = Some (cell, k.now cell) ∷ k.saves }

-- what a save puts back
abbrev pub restored : {X : Type 0} → Save X → (Cell → X) → Cell → X
restored None f = f
restored (Some s) f = put s.0 s.1 f

abbrev pub now_undone : {X : Type 0} → (Cell → X) → List (Save X) → Cell → X
now_undone f [] = f
now_undone f (s ∷ saves) = restored s f

abbrev pub saves_undone : {X : Type 0} → List (Save X) → List (Save X)
saves_undone [] = []
saves_undone (s ∷ saves) = saves

-- the last save undone
abbrev pub undone : {X : Type 0} → Kept X → Kept X
undone k = record { now = now_undone k.now k.saves; saves = saves_undone k.saves }

-- each thing kept, seen by f
abbrev pub mapped_save : {X Y : Type 0} → (Cell → X → Y) → Save X → Save Y
mapped_save f None = None
mapped_save f (Some s) = Some (s.0, f s.0 s.1)

abbrev pub mapped : {X Y : Type 0} → (Cell → X → Y) → Kept X → Kept Y
mapped f k = record { now = λ cell. f cell (k.now cell); saves = map (mapped_save f) k.saves }
