-- What a recorder notes and writes, and what that says of other worlds and states.
use Rattle.std.specs.Prelude.{◌≡◌, Bool, List, [], ◌∷◌, ◌++◌, map, Option, None, is_some, refl}
use Rattle.lb_values.specs.declared.cell.Cell.{Cell}
use Rattle.lb_values.specs.declared.value.Value.{Value}
use Rattle.lb_values.specs.Kept.{Kept, mapped}
use Rattle.lb_model.specs.declared.world.World.{World}
use Rattle.lb_model.specs.Settings.{State, Setting, Notes, laid_over, look}
use Rattle.lb_maps.specs.CellMap.{Held, held_now, kept}
use Rattle.lb_cells.specs.StateCells.{StateCells, told_over, told_state}

-- a recorder: the world and the guess; the cells that were told while no write stood on them, in the order of first telling; and the writes
-- with their saves, where None is no write
pub record Recorded : Type 0 where
  pub world : World
  pub guess : StateCells
  pub told : List Cell
  pub writes : Held (Option Value)

-- a world and what a state holds
abbrev pub setting_of : World → StateCells → Setting
setting_of w s = record { world = w; state = told_state s }

-- cells, each with what it tells
abbrev pub pairs : Setting → List Cell → List (Cell × Value)
pairs p cells = map (λ cell. (cell, look p.world p.state cell)) cells

-- what is noted: each cell that was told, with what it tells in the world and the guess
abbrev pub reads_of : Recorded → List (Cell × Value)
reads_of r = pairs (setting_of r.world r.guess) r.told

-- the setting tells each noted pair, also where that is Absent
abbrev pub AgreesWith : List (Cell × Value) → Setting → Type 0
AgreesWith [] p = Unit {0}
AgreesWith (e ∷ reads) p = (look p.world p.state e.0 ≡ e.1) × AgreesWith reads p

-- what cells tell in a setting holds there
abbrev pub pairs_hold : (p : Setting) (cells : List Cell) → AgreesWith (pairs p cells) p
pairs_hold p [] = tt
pairs_hold p (cell ∷ cells) = (refl, pairs_hold p cells)

-- what is written, seen over a state
abbrev pub kept_over : State → Kept (Option Value) → Kept Value
kept_over s = mapped (told_over s)

-- what the cells hold where the recorder stands over a state, and the standing saves
abbrev pub meaning_over : Recorded → State → Kept Value
meaning_over r s = kept_over s (kept None r.writes)

-- where writes stand, now and at each save
abbrev pub writes_stand : Kept (Option Value) → Kept Bool
writes_stand = mapped (λ _ write. is_some write)

-- the cells that were told, and where writes stand
abbrev pub notes_of : Recorded → Notes
notes_of r = record { told = r.told; written = writes_stand (kept None r.writes) }

-- one cell more is told
abbrev pub told_more : Cell → Recorded → Recorded
told_more cell r = record r { told = r.told ++ cell ∷ [] }

-- a state with the entries of writes laid over
abbrev pub overlaid : List (Cell × Option Value) → State → State
overlaid writes = laid_over (held_now None writes)

-- Reads and writes that speak for a run, which in a world and from a state has an outcome and leaves a state: in each world and state that
-- agree with the reads, the outcome is this, and the state is the old one with the writes laid over
abbrev pub IsSound : {X : Type 0} → (World → State → X × State) → List (Cell × Value) → List (Cell × Option Value) → X → Type 0
IsSound run reads writes x = (p : Setting) → AgreesWith reads p → run p.world p.state ≡ (x, overlaid writes p.state)

-- a recorder that was just made
pub record IsFresh (r : Recorded) : Type 0 where
  pub told : r.told ≡ []
  pub entries : r.writes.entries ≡ []
  pub saves : r.writes.saves ≡ []

-- A run of a client over cells, as its contract says it of each setting that agrees at its end: what it had before, it turns into what it has
-- after
abbrev pub DoesOver : {X : Type 0} → (World → State → X × State) → Recorded → Recorded → X → Type 0
DoesOver run start end x = (p : Setting) → AgreesWith (reads_of end) p → run p.world (meaning_over start p.state).now ≡ (x, (meaning_over end p.state).now)
