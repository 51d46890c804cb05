-- Cells that have a slot in a table, where each is found by its number and not by a hash: the parameters, and all cells whose key is a
-- byte. The parameters come first, then the cells that most texts change.
use Rattle.std.specs.Option.{option_map}
use Rattle.std.specs.Prelude.{◌≡◌, ℕ, zero, suc, ◌+◌, ◌*◌, nat_lt, cond, List, [], ◌∷◌, Option, None, Some}
use Rattle.lb_rows.specs.declared.parameter.Parameter.{Parameter}
use Rattle.lb_rows.specs.declared.parameter.Parameter.TheVariants as parameter
use Rattle.lb_values.specs.declared.cell.Cell.{Cell}
use Rattle.lb_values.specs.declared.cell.Cell.TheVariants.{Par, Cat, Sf, Count, Dimen, Skip, Lc, Uc, Toks, Boxed, Active}

unfoldable pub parameter_slot : Parameter → ℕ
parameter_slot parameter.AdjDemerits = 0
parameter_slot parameter.BaselineSkip = 1
parameter_slot parameter.BrokenPenalty = 2
parameter_slot parameter.ClubPenalty = 3
parameter_slot parameter.Day = 4
parameter_slot parameter.DoubleHyphenDemerits = 5
parameter_slot parameter.EvenSideMargin = 6
parameter_slot parameter.ExHyphenPenalty = 7
parameter_slot parameter.FinalHyphenDemerits = 8
parameter_slot parameter.FootSkip = 9
parameter_slot parameter.HeadHeight = 10
parameter_slot parameter.HeadSep = 11
parameter_slot parameter.HSize = 12
parameter_slot parameter.HyphenPenalty = 13
parameter_slot parameter.InterLinePenalty = 14
parameter_slot parameter.LeftSkip = 15
parameter_slot parameter.LinePenalty = 16
parameter_slot parameter.LineSkip = 17
parameter_slot parameter.LineSkipLimit = 18
parameter_slot parameter.MaxDepth = 19
parameter_slot parameter.Month = 20
parameter_slot parameter.OddSideMargin = 21
parameter_slot parameter.ParFillSkip = 22
parameter_slot parameter.ParIndent = 23
parameter_slot parameter.ParSkip = 24
parameter_slot parameter.Pretolerance = 25
parameter_slot parameter.RightSkip = 26
parameter_slot parameter.TextHeight = 27
parameter_slot parameter.TextWidth = 28
parameter_slot parameter.Time = 29
parameter_slot parameter.Tolerance = 30
parameter_slot parameter.TopMargin = 31
parameter_slot parameter.TopSkip = 32
parameter_slot parameter.WidowPenalty = 33
parameter_slot parameter.Year = 34

-- the slot of a byte in one of the tables of 256 behind the parameters
abbrev pub byte_slot : ℕ → ℕ → Option ℕ
byte_slot table byte = cond (nat_lt byte 256) (Some (35 + table * 256 + byte)) None

unfoldable pub slot_of : Cell → Option ℕ
slot_of (Par p) = Some (parameter_slot p)
slot_of (Cat byte) = byte_slot 0 byte
slot_of (Sf byte) = byte_slot 1 byte
slot_of (Count byte) = byte_slot 2 byte
slot_of (Dimen byte) = byte_slot 3 byte
slot_of (Skip byte) = byte_slot 4 byte
slot_of (Lc byte) = byte_slot 5 byte
slot_of (Uc byte) = byte_slot 6 byte
slot_of (Toks byte) = byte_slot 7 byte
slot_of (Boxed byte) = byte_slot 8 byte
slot_of (Active byte) = byte_slot 9 byte
slot_of cell = None

-- the entries of a table, in the order of its slots
abbrev pub filled : {V : Type 0} → List (Option (Cell × V)) → List (Cell × V)
filled [] = []
filled (None ∷ slots) = filled slots
filled (Some entry ∷ slots) = entry ∷ filled slots

-- what a table has in a slot, None past its end
abbrev pub in_slot : {V : Type 0} → List (Option (Cell × V)) → ℕ → Option V
in_slot [] i = None
in_slot (s ∷ slots) zero = option_map (λ entry. entry.1) s
in_slot (s ∷ slots) (suc i) = in_slot slots i

-- each entry stands in the slot of its cell, where the first slot has this number
abbrev pub ArePlaced : {V : Type 0} → ℕ → List (Option (Cell × V)) → Type 0
ArePlaced n [] = Unit {0}
ArePlaced n (None ∷ slots) = ArePlaced (suc n) slots
ArePlaced n (Some entry ∷ slots) = (slot_of entry.0 ≡ Some n) × ArePlaced (suc n) slots

-- no cell that has a slot has an entry
abbrev pub HaveNoSlots : {V : Type 0} → (Cell → Option V) → Type 0
HaveNoSlots held = (cell : Cell) (slot : ℕ) → slot_of cell ≡ Some slot → held cell ≡ None
