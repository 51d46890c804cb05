-- A small state of counters and labels, for rows that are worked out by hand.
use Rattle.std.specs.Prelude.{ℕ, ℤ, pos, List, [], ◌∷◌, codes, nat_eq, Result}
use Rattle.std.specs.Cmp.Lexicographic.{pointwise}
use Rattle.std.specs.FinMap as files
use Rattle.std.specs.Map.{lookup}
use Rattle.std.specs.Option.{option_map_or}
use Rattle.lb_base.specs.declared.fault.Kind.{Kind}
use Rattle.lb_values.specs.declared.cell.Cell.TheVariants as cell
use Rattle.lb_values.specs.declared.value.Form.{Form}
use Rattle.lb_values.specs.declared.value.LabelPair.{LabelPair}
use Rattle.lb_values.specs.declared.value.Value.{Value}
use Rattle.lb_values.specs.declared.value.Value.TheVariants as value
use Rattle.lb_values.specs.Cells.{cell_eq}
use Rattle.lb_values.specs.Kept.{Kept}
use Rattle.lb_model.specs.declared.world.World.{World}
use Rattle.lb_model.specs.Settings.{Notes, State}
use Rattle.lb_model_counters.specs.Counters.{print_counter}
use Rattle.lb_model_counters.specs.Effects.{Effect, state_after}

-- the counters a, b, c and d
abbrev pub numbers : List (List ℕ × ℤ)
numbers = (codes "a", pos 2) ∷ (codes "b", pos 7) ∷ (codes "c", pos 9) ∷ (codes "d", pos 2147483647) ∷ []

-- a step of a resets b, and one of b resets c
abbrev pub resets : List (List ℕ × List (List ℕ))
resets = (codes "a", codes "b" ∷ []) ∷ (codes "b", codes "c" ∷ []) ∷ []

-- the label k
abbrev pub labels : List (List ℕ × LabelPair)
labels = (codes "k", record { text = codes "1"; page = codes "iv" }) ∷ []

abbrev pub state : State
state (cell.Counter name) = option_map_or value.Number (lookup (pointwise nat_eq name) numbers) value.Absent
state (cell.Resets name) = option_map_or value.Names (lookup (pointwise nat_eq name) resets) value.Absent
state cell.Counters = value.Names (codes "a" ∷ codes "b" ∷ codes "c" ∷ [])
state cell.CurrentLabel = value.Text (codes "2.7")
state (cell.Label key) = option_map_or value.Label (lookup (pointwise nat_eq key) labels) value.Absent
state c = value.Absent

-- a counter n with this number, and no other one
abbrev pub counter_at : ℤ → State
counter_at n (cell.Counter name) = option_map_or value.Number (lookup (pointwise nat_eq name) ((codes "n", n) ∷ [])) value.Absent
counter_at n c = value.Absent

abbrev pub kept : Kept Value
kept = record { now = state; saves = [] }

abbrev pub world : World
world = record { files = files.empty; main = codes "main"; prefix = []; steps = 1000; moment = record { year = 1776; month = 7; day = 4; minutes = 720 } }

-- the counter c was told, and a write stands on the counter a
abbrev pub notes : Notes
notes = record { told = cell.Counter (codes "c") ∷ []; written = record { now = cell_eq (cell.Counter (codes "a")); saves = [] } }

-- the text of a counter with this number
abbrev pub printed : Form → ℤ → Result (List ℕ) Kind
printed form n = (print_counter (codes "n") form world (counter_at n)).answer

-- what each cell holds once an effect is done
abbrev pub held_after : {X : Type 0} → (World → State → Effect X) → State
held_after effect = state_after effect world kept

-- an effect on this state
abbrev pub worked : {X : Type 0} → (World → State → Effect X) → Effect X
worked effect = effect world state
