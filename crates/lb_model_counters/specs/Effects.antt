-- What a command does to cells: what it answers, which cells it looks at, and what it sets.
use Rattle.std.specs.Prelude.{List, [], ◌∷◌, Result, Ok, Err}
use Rattle.lb_base.specs.declared.fault.Kind.{Kind}
use Rattle.lb_values.specs.declared.cell.Cell.{Cell}
use Rattle.lb_values.specs.declared.reach.Reach.TheVariants.{Global}
use Rattle.lb_values.specs.declared.value.Value.{Value}
use Rattle.lb_values.specs.Kept.{Kept, changed}
use Rattle.lb_model.specs.declared.world.World.{World}
use Rattle.lb_model.specs.Settings.{Notes, State, noted_all, noted_change}
use Rattle.lb_model.specs.Stacked.{Stacked, StackedNotes, assigned, looked_all, notes_assigned}

-- what is answered, or the kind of the fault; the cells that are looked at, in order; and then the cells that are set globally, one after
-- another, each with what it is set to
pub record Effect (X : Type 0) : Type 0 where
  pub answer : Result X Kind
  pub looks : List Cell
  pub changes : List (Cell × Value)

abbrev pub answers : {X : Type 0} → List Cell → X → Effect X
answers looks x = record { answer = Ok x; looks = looks; changes = [] }

-- a fault changes nothing
abbrev pub refuses : {X : Type 0} → List Cell → Kind → Effect X
refuses looks kind = record { answer = Err kind; looks = looks; changes = [] }

abbrev pub sets : List Cell → List (Cell × Value) → Effect Unit
sets looks changes = record { answer = Ok tt; looks = looks; changes = changes }

-- ---- What becomes of what cells hold, and of what they note

abbrev pub all_changed : List (Cell × Value) → Kept Value → Kept Value
all_changed [] k = k
all_changed (c ∷ changes) k = all_changed changes (changed Global c.0 c.1 k)

abbrev pub changes_noted : List (Cell × Value) → Notes → Notes
changes_noted [] n = n
changes_noted (c ∷ changes) n = changes_noted changes (noted_change Global c.0 n)

abbrev pub changed_by : {X : Type 0} → Effect X → Kept Value → Kept Value
changed_by e k = all_changed e.changes k

-- a cell on which a write stands is not noted as it is looked at
abbrev pub noted_by : {X : Type 0} → Effect X → Notes → Notes
noted_by e n = changes_noted e.changes (noted_all e.looks n)

-- ---- The same inside groups

abbrev pub all_assigned : List (Cell × Value) → Stacked Value → Stacked Value
all_assigned [] s = s
all_assigned (c ∷ changes) s = all_assigned changes (assigned Global c.0 c.1 s)

abbrev pub assigned_by : {X : Type 0} → Effect X → Stacked Value → Stacked Value
assigned_by e s = all_assigned e.changes s

abbrev pub all_notes_assigned : List (Cell × Value) → StackedNotes → StackedNotes
all_notes_assigned [] n = n
all_notes_assigned (c ∷ changes) n = all_notes_assigned changes (notes_assigned Global c.0 n)

abbrev pub looked_by : {X : Type 0} → Effect X → StackedNotes → StackedNotes
looked_by e n = all_notes_assigned e.changes (looked_all e.looks n)

-- what each cell holds once an effect is done
abbrev pub state_after : {X : Type 0} → (World → State → Effect X) → World → Kept Value → State
state_after effect w k = (changed_by (effect w k.now) k).now
