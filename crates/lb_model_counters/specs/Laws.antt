-- What holds of the effects of counters.
use Rattle.std.specs.Prelude.{◌≡◌, ◌+ℤ◌, Bool, true, false, ℕ, ℤ, pos, List, [], Option, Some, Ok, Err, Contains}
use Rattle.lb_base.specs.declared.fault.Kind.{Kind}
use Rattle.lb_values.specs.Cells.{cell_eq}
use Rattle.lb_values.specs.Kept.{Kept}
use Rattle.lb_values.specs.declared.cell.Cell.{Cell}
use Rattle.lb_values.specs.declared.cell.Cell.TheVariants.{Counter, Counters, Resets}
use Rattle.lb_values.specs.declared.value.Value.{Value}
use Rattle.lb_values.specs.declared.value.Value.TheVariants.{Number}
use Rattle.lb_model.specs.declared.world.World.{World}
use Rattle.lb_model.specs.Quantities.{counter_in}
use Rattle.lb_model.specs.Settings.{State}
use Rattle.lb_model_counters.specs.Counters.{names_in, new_counter, set_counter, step_counter}
use Rattle.lb_model_counters.specs.Effects.{Effect, state_after}

-- where it ends in a fault, it changes nothing
abbrev pub FaultsChangeNothing : {X : Type 0} → (World → State → Effect X) → Type 0
FaultsChangeNothing effect = (w : World) (s : State) (k : Kind) → (effect w s).answer ≡ Err k → (effect w s).changes ≡ []

-- where it is done, this holds of what the cells hold
abbrev pub Makes : (World → State → Effect Unit) → (World → Kept Value → State → Type 0) → Type 0
Makes effect P = (w : World) (k : Kept Value) → (effect w k.now).answer ≡ Ok tt → P w k (state_after effect w k)

-- a cell that is none of these counters
abbrev pub IsNoneOf : List (List ℕ) → Cell → Type 0
IsNoneOf names c = (name : List ℕ) → Contains names name → cell_eq (Counter name) c ≡ false

-- ---- A counter that is set

abbrev pub SetHasNumber : Type 0
SetHasNumber = (name : List ℕ) (n : ℤ) → Makes (set_counter name n) (λ w k s. s (Counter name) ≡ Number n)

abbrev pub SetKeepsOthers : Type 0
SetKeepsOthers = (name : List ℕ) (n : ℤ) (c : Cell) → cell_eq (Counter name) c ≡ false → Makes (set_counter name n) (λ w k s. s c ≡ k.now c)

-- ---- A step

-- each counter of its own list is 0
abbrev pub StepResetsItsList : Type 0
StepResetsItsList =
    (name other : List ℕ) (by : ℤ)
    → Makes (step_counter name by true) (λ w k s. Contains (names_in w k.now (Resets name)) other → s (Counter other) ≡ Number (pos 0))

abbrev pub StepHasSum : Type 0
StepHasSum =
    (name : List ℕ) (n by : ℤ) (resets : Bool)
    → Makes (step_counter name by resets)
    (λ w k s. counter_in w k.now name ≡ Some n → IsNoneOf (names_in w k.now (Resets name)) (Counter name) → s (Counter name) ≡ Number (n +ℤ by))

abbrev pub StepKeepsOthers : Type 0
StepKeepsOthers =
    (name : List ℕ) (by : ℤ) (resets : Bool) (c : Cell) → cell_eq (Counter name) c ≡ false
    → Makes (step_counter name by resets) (λ w k s. IsNoneOf (names_in w k.now (Resets name)) c → s c ≡ k.now c)

-- ---- A new counter

abbrev pub NewIsZero : Type 0
NewIsZero = (name : List ℕ) (within : Option (List ℕ)) → Makes (new_counter name within) (λ w k s. s (Counter name) ≡ Number (pos 0))

abbrev pub NewIsInCheckpoint : Type 0
NewIsInCheckpoint = (name : List ℕ) (within : Option (List ℕ)) → Makes (new_counter name within) (λ w k s. Contains (names_in w s Counters) name)

-- a step of the counter that it is within resets it
abbrev pub NewIsReset : Type 0
NewIsReset = (name within : List ℕ) → Makes (new_counter name (Some within)) (λ w k s. Contains (names_in w s (Resets within)) name)
