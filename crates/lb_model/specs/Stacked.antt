-- Groups: the present state and an earlier whole state for each open group (TeXbook, chapter 7; tex.web, part 19). The code keeps saves.
use Rattle.std.specs.Prelude.{◌+◌, ◌≤◌, length, Bool, true, ℕ, zero, suc, cond, List, [], ◌∷◌, map, Option}
use Rattle.std.specs.Option.{option_map}
use Rattle.lb_values.specs.declared.cell.Cell.{Cell}
use Rattle.lb_values.specs.declared.reach.Reach.{Reach}
use Rattle.lb_values.specs.declared.reach.Reach.TheVariants.{Local, Global}
use Rattle.lb_values.specs.Kept.{Kept, put, undone}
use Rattle.lb_model.specs.Settings.{Notes, with_cell}
use Rattle.lb_model.specs.declared.group.Group.{Group}
use Rattle.lb_model.specs.declared.group.GroupKind.{GroupKind}

-- what each cell holds now, and what it held as each open group was opened, the innermost first
pub record Stacked (X : Type 0) : Type 0 where
  pub now : Cell → X
  pub earlier : List (Cell → X)

-- a global change is made in the present state and in each earlier one
abbrev pub assigned : {X : Type 0} → Reach → Cell → X → Stacked X → Stacked X
assigned Local cell x s = record { now = put cell x s.now; earlier = s.earlier }
assigned Global cell x s = record { now = put cell x s.now; earlier = map (put cell x) s.earlier }

-- opening a group adds the present state
abbrev pub opened : {X : Type 0} → Stacked X → Stacked X
opened s = record { now = s.now; earlier = s.now ∷ s.earlier }

abbrev pub now_closed : {X : Type 0} → (Cell → X) → List (Cell → X) → Cell → X
now_closed now [] = now
now_closed now (f ∷ earlier) = f

abbrev pub earlier_closed : {X : Type 0} → List (Cell → X) → List (Cell → X)
earlier_closed [] = []
earlier_closed (f ∷ earlier) = earlier

-- closing it takes the last one back
abbrev pub closed : {X : Type 0} → Stacked X → Stacked X
closed s = record { now = now_closed s.now s.earlier; earlier = earlier_closed s.earlier }

-- ---- What saves mean

-- the kinds of the open groups, the innermost first
abbrev pub kinds_of : List Group → List GroupKind
kinds_of groups = map (λ g. g.kind) groups

-- the last n saves undone
abbrev pub undone_by : {X : Type 0} → ℕ → Kept X → Kept X
undone_by zero k = k
undone_by (suc n) k = undone (undone_by n k)

-- the earlier states, where each open group has made this many saves, the innermost first
abbrev pub earlier_of : {X : Type 0} → List Group → Kept X → List (Cell → X)
earlier_of [] k = []
earlier_of (g ∷ groups) k = (undone_by g.saves k).now ∷ earlier_of groups (undone_by g.saves k)

abbrev pub stacked : {X : Type 0} → List Group → Kept X → Stacked X
stacked groups k = record { now = k.now; earlier = earlier_of groups k }

-- how many saves the open groups have made together
abbrev pub saves_in : List Group → ℕ
saves_in [] = 0
saves_in (g ∷ groups) = g.saves + saves_in groups

-- as many saves stand as the open groups have made
abbrev pub Standing : {X : Type 0} → List Group → Kept X → Type 0
Standing groups k = saves_in groups ≤ length k.saves

-- ---- Notes

-- the notes, with an earlier list of written cells for each open group
pub record StackedNotes : Type 0 where
  pub told : List Cell
  pub written : Stacked Bool

abbrev pub stacked_notes : List Group → Option Notes → Option StackedNotes
stacked_notes groups = option_map (λ n. record { told = n.told; written = stacked groups n.written })

-- the notes once a cell is assigned, once a group is opened, and once it is closed
abbrev pub notes_assigned : Reach → Cell → StackedNotes → StackedNotes
notes_assigned reach cell n = record { told = n.told; written = assigned reach cell true n.written }

abbrev pub notes_opened : StackedNotes → StackedNotes
notes_opened n = record { told = n.told; written = opened n.written }

abbrev pub notes_closed : StackedNotes → StackedNotes
notes_closed n = record { told = n.told; written = closed n.written }

-- the notes once a cell is looked at
abbrev pub looked : Cell → StackedNotes → StackedNotes
looked cell n = cond (n.written.now cell) n (record { told = with_cell cell n.told; written = n.written })

-- the notes once cells are looked at, one after another
abbrev pub looked_all : List Cell → StackedNotes → StackedNotes
looked_all [] n = n
looked_all (cell ∷ cells) n = looked_all cells (looked cell n)
