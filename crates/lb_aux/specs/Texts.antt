-- A call that makes a text of what cells hold.
use Rattle.std.specs.Prelude.{◌≡◌, ℕ, List, map, Result, IfOk, OnOk}
use Rattle.std.specs.List.{flat_map}
use Rattle.std.specs.Option.{option_map}
use Rattle.lb_values.specs.declared.cell.Cell.{Cell}
use Rattle.lb_model.specs.declared.cells.Cells.{Ghosts}
use Rattle.lb_model.specs.declared.world.World.{World}
use Rattle.lb_model.specs.Settings.{Setting, State, noted_all}
use Rattle.lb_model_aux.specs.Checkpoints.{numbered}
use Rattle.lb_model_journal.specs.Written.{counter_line}

-- the lines of counters, with the numbers that a state has
abbrev pub counter_lines : World → State → List (List ℕ) → List ℕ
counter_lines w s names = flat_map counter_line (map (numbered w s) names)

-- the line of a counter, with the number that a state has
abbrev pub held_line : World → State → List ℕ → List ℕ
held_line w s name = counter_line (numbered w s name)

-- what a world and a state give
abbrev pub OfState : Type 0 → Type 0
OfState X = World → State → X

-- The text of the world and the state, for which these cells are looked at. What is now stands before what was
pub record Shows {S E : Type 0} (C : Ghosts S) (text : OfState (List ℕ)) (looks : OfState (List Cell)) (result : Result (List ℕ) E) (new old : S) : Type 0 where
  pub narrows : (p : Setting) → C.agrees new p → C.agrees old p
  pub value : IfOk result (λ bytes. (p : Setting) → C.agrees new p → bytes ≡ text p.world (C.meaning old p).now)
  pub stays : (p : Setting) → C.agrees new p → C.meaning new p ≡ C.meaning old p
  pub notes : OnOk result ((p : Setting) → C.agrees new p → C.notes new ≡ option_map (noted_all (looks p.world (C.meaning old p).now)) (C.notes old))
  pub made : C.made new ≡ C.made old
  pub loan : C.loan new ≡ C.loan old
