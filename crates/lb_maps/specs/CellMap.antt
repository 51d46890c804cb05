-- What a list of entries holds at a cell.
use Rattle.std.specs.Prelude.{◌≡◌, true, List, [], ◌∷◌, Option, None, Some, is_some, unwrap_or}
use Rattle.std.specs.Map.{lookup}
use Rattle.lb_values.specs.Cells.{cell_eq}
use Rattle.lb_values.specs.Kept.{Kept, Save}
use Rattle.lb_values.specs.declared.cell.Cell.{Cell}

-- what the entries hold at a cell
unfoldable pub at : {V : Type 0} → List (Cell × V) → Cell → Option V
at entries cell = lookup (cell_eq cell) entries

-- entries and standing saves, the last one first
pub record Held (V : Type 0) : Type 0 where
  pub entries : List (Cell × V)
  pub saves : List (Save V)

-- what a cell holds, which is blank where it has no entry
abbrev pub held_now : {V : Type 0} → V → List (Cell × V) → Cell → V
held_now blank entries cell = unwrap_or (at entries cell) blank

-- what entries and saves mean, where a cell without an entry holds blank
abbrev pub kept : {V : Type 0} → V → Held V → Kept V
kept blank h = record { now = held_now blank h.entries; saves = h.saves }

-- each cell with a save has an entry
abbrev pub AllSaved : {V : Type 0} → List (Cell × V) → List (Save V) → Type 0
AllSaved entries [] = Unit {0}
AllSaved entries (None ∷ saves) = AllSaved entries saves
AllSaved entries (Some s ∷ saves) = (is_some (at entries s.0) ≡ true) × AllSaved entries saves

-- each cell with an entry keeps one
abbrev pub KeepsEntries : {V : Type 0} → List (Cell × V) → List (Cell × V) → Type 0
KeepsEntries old new = (cell : Cell) → is_some (at old cell) ≡ true → is_some (at new cell) ≡ true
