-- The open groups as the code keeps them, and what it tells in them.
use Rattle.std.specs.Prelude.{◌≡◌, ◌+◌, ◌<◌, ◌^◌, Bool, true, false, ℕ, suc, List, [], ◌∷◌, Option, None, Some, Result, IfOk, OnOk, OnErr}
use Rattle.std.specs.Option.{option_map}
use Rattle.lb_values.specs.declared.cell.Cell.{Cell}
use Rattle.lb_values.specs.declared.value.Value.{Value}
use Rattle.lb_model.specs.declared.cells.Cells.{Ghosts}
use Rattle.lb_model.specs.declared.group.Group.{Group}
use Rattle.lb_model.specs.declared.group.GroupKind.{GroupKind}
use Rattle.lb_model.specs.Settings.{Notes, Setting, look}
use Rattle.lb_model.specs.Stacked.{looked, stacked_notes, undone_by}

-- the innermost group and those around it, where the last of these stands for none
abbrev pub groups_of : Group → List Group → List Group
groups_of inner [] = []
groups_of inner (g ∷ around) = inner ∷ groups_of g around

abbrev pub is_open : List Group → Bool
is_open [] = false
is_open (g ∷ groups) = true

-- the kind of the innermost group
abbrev pub innermost : List Group → Option GroupKind
innermost [] = None
innermost (g ∷ groups) = Some g.kind

abbrev pub closed_kinds : List GroupKind → List GroupKind
closed_kinds [] = []
closed_kinds (kind ∷ kinds) = kinds

-- the innermost group can make one more save, as far as its count goes
abbrev pub HasRoom : List Group → Type 0
HasRoom [] = Unit {0}
HasRoom (g ∷ groups) = g.saves + 1 < 2 ^ 64

-- the innermost group has made one more save
abbrev pub one_more : List Group → List Group
one_more [] = []
one_more (g ∷ groups) = record g { saves = suc g.saves } ∷ groups

-- notes once so many saves are undone
abbrev pub noted_undo_by : ℕ → Notes → Notes
noted_undo_by count n = record n { written = undone_by count n.written }

-- a call that asks one cell inside groups: what it tells, seen by f
pub record TellsIn {S X E : Type 0} (C : Ghosts S) (groups : List Group) (cell : Cell) (f : Value → X) (result : Result X E) (new old : S) : Type 0 where
  pub narrows : (p : Setting) → C.agrees new p → C.agrees old p
  pub value : IfOk result (λ v. (p : Setting) → C.agrees new p → f (look p.world (C.meaning old p).now cell) ≡ v)
  pub stays : (p : Setting) → C.agrees new p → C.meaning new p ≡ C.meaning old p
  pub notes : OnOk result (stacked_notes groups (C.notes new) ≡ option_map (looked cell) (stacked_notes groups (C.notes old)))
  pub notes_on_err : OnErr result (stacked_notes groups (C.notes new) ≡ stacked_notes groups (C.notes old))
  pub made : C.made new ≡ C.made old
  pub loan : C.loan new ≡ C.loan old
