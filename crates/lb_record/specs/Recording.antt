-- How a recorder keeps what it notes and writes.
use Rattle.std.specs.Prelude.{◌≡◌, ◌<◌, ℕ, true, false, List, [], ◌∷◌, map, length, Option, None, Some, slice_get}
use Rattle.std.specs.Coded.{Coded, coded_ℕ, coded_list}
use Rattle.std.specs.FinMap.{code}
use Rattle.std.specs.List.{IsDistinct}
use Rattle.std.specs.Option.{option_map}
use Rattle.lb_values.specs.Cells.{cell_eq}
use Rattle.lb_values.specs.declared.cell.Cell.{Cell}
use Rattle.lb_values.specs.declared.value.Value.{Value}
use Rattle.lb_values.specs.Kept.{Kept, Save}
use Rattle.lb_model.specs.declared.world.World.{World}
use Rattle.lb_model.specs.Files.{Files}
use Rattle.lb_model.specs.Ranges.{is_settable}
use Rattle.lb_maps.specs.CellMap.{Held, at, held_now, kept}
use Rattle.lb_cells.specs.StateCells.{StateCells}
use Rattle.lb_record.specs.declared.known.Known.{Known}
use Rattle.lb_record.specs.Recorded.{AgreesWith, setting_of}

-- what is known of a cell of which nothing is
abbrev pub unknown : Known
unknown = record { place = None; written = false }

abbrev pub known_of : List (Cell × Known) → Cell → Known
known_of known = held_now unknown known

-- the value at a place among pairs
abbrev pub value_at : List (Cell × Value) → Option ℕ → Option Value
value_at pairs None = None
value_at pairs (Some place) = option_map (λ pair. pair.1) (slice_get pairs place)

-- each cell of the pairs is found at its place, and no other cell has one
pub record ArePlaced (known : List (Cell × Known)) (pairs : List (Cell × Value)) : Type 0 where
  pub within : (cell : Cell) (place : ℕ) → (known_of known cell).place ≡ Some place → place < length pairs
  pub finds : (cell : Cell) → value_at pairs (known_of known cell).place ≡ at pairs cell

-- a write that stands on a cell: the cell may be set so, and is known to be written
abbrev pub IsWrite : List (Cell × Known) → Cell → Option Value → Type 0
IsWrite known cell None = Unit {0}
IsWrite known cell (Some value) = (is_settable cell value ≡ true) × ((known_of known cell).written ≡ true)

-- what each save would put back has a property
abbrev pub AllSaves : {X : Type 0} → (Cell → X → Type 0) → List (Save X) → Type 0
AllSaves P [] = Unit {0}
AllSaves P (None ∷ saves) = AllSaves P saves
AllSaves P (Some s ∷ saves) = P s.0 s.1 × AllSaves P saves

-- so has what each cell holds now
pub record AllKept {X : Type 0} (P : Cell → X → Type 0) (k : Kept X) : Type 0 where
  pub now : (cell : Cell) → P cell (k.now cell)
  pub saves : AllSaves P k.saves

-- a recorder's notes hold in its world and its guess, and are of one cell each; each is found by its cell; and what is written was settable and is
-- known to be written
pub record IsRecording (world : World) (guess : StateCells) (known : List (Cell × Known)) (pairs : List (Cell × Value)) (writes : Held (Option Value)) : Type 0 where
  pub holds : AgreesWith pairs (setting_of world guess)
  pub once : IsDistinct cell_eq (map (λ e. e.0) pairs)
  pub placed : ArePlaced known pairs
  pub written : AllKept (IsWrite known) (kept None writes)

-- how files are told apart, which a proof asks of all that contracts see of a type
abbrev pub files_code : Coded Files
files_code = code (coded_list coded_ℕ) (coded_list coded_ℕ)
