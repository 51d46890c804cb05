-- Saves with marks, which tell those that a global change made void.
use Rattle.std.specs.Prelude.{ℕ, cond, nat_lt, List, [], ◌∷◌, length, Some, None}
use Rattle.lb_values.specs.declared.cell.Cell.{Cell}
use Rattle.lb_values.specs.Kept.{Save}
use Rattle.lb_maps.specs.CellMap.{held_now}

-- saves, the last one first, and the marks: for a cell the number of saves that stood at its last global change
pub record Marked (V : Type 0) : Type 0 where
  pub items : List (Cell × V)
  pub marks : List (Cell × ℕ)

-- a cell's mark, which is 0 where it has none
abbrev pub mark_at : List (Cell × ℕ) → Cell → ℕ
mark_at = held_now 0

-- the saves, None where one is void: one whose place, counted from the oldest, is below its cell's mark
abbrev pub seen : {V : Type 0} → (Cell → ℕ) → List (Cell × V) → List (Save V)
seen mark [] = []
seen mark (s ∷ older) = cond (nat_lt (length older) (mark s.0)) None (Some s) ∷ seen mark older

-- what saves and marks mean
abbrev pub standing : {V : Type 0} → Marked V → List (Save V)
standing m = seen (mark_at m.marks) m.items
