-- What holds of all that is done, and of what is noted beside it.
use Rattle.std.specs.Prelude.{◌≡◌, ◌++◌, List, Some}
use Rattle.lb_values.specs.declared.cell.Cell.{Cell}
use Rattle.lb_values.specs.declared.reach.Reach.{Reach}
use Rattle.lb_values.specs.declared.value.Value.{Value}
use Rattle.lb_model.specs.Stacked.{StackedNotes}
use Rattle.lb_model_nest.specs.Wholes.{Executed, Whole, and_then, change, looking}
use Rattle.lb_model_engine.specs.Pieces.{told_of}

-- ---- What is done does not depend on what is noted

-- a look at cells does nothing
abbrev pub LooksDoNothing : Type 0
LooksDoNothing = (cells : List Cell) (e : Executed) → (looking cells e).done ≡ e.done

-- where two things do the same, the same is done behind them, whatever they note
abbrev pub NotesDoNothing : Type 0
NotesDoNothing = (e f : Executed) (more : Whole → Executed) → e.done ≡ f.done → (and_then e more).done ≡ (and_then f more).done

-- ---- What is told stays told, in its order

-- a list that begins with another one
pub record Begun (before : List Cell) (after : List Cell) : Type 0 where
  pub rest : List Cell
  pub is : after ≡ before ++ rest

-- what is told behind it begins with what was told
abbrev pub Extends : Executed → Type 0
Extends e = (n : StackedNotes) → Begun n.told (told_of (e.noted (Some n)))

abbrev pub LooksExtend : Type 0
LooksExtend = (cells : List Cell) (e : Executed) → Extends e → Extends (looking cells e)

abbrev pub ChangesExtend : Type 0
ChangesExtend = (reach : Reach) (cell : Cell) (v : Value) (w : Whole) → Extends (change reach cell v w)
