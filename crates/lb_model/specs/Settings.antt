-- Worlds and states, and what a cell tells in them.
use Rattle.std.specs.Prelude.{◌≡◌, ℕ, Bool, true, cond, List, [], ◌∷◌, ◌++◌, Option, unwrap_or, pos}
use Rattle.std.specs.Option.{option_map_or}
use Rattle.std.specs.List.{list_any}
use Rattle.std.specs.FinMap as map
use Rattle.lb_rows.specs.declared.parameter.Parameter.TheVariants.{Year, Month, Day, Time}
use Rattle.lb_values.specs.Cells.{cell_eq}
use Rattle.lb_values.specs.declared.cell.Cell.{Cell}
use Rattle.lb_values.specs.declared.cell.Cell.TheVariants.{Par, Job, Prefix, Steps, File}
use Rattle.lb_values.specs.declared.reach.Reach.{Reach}
use Rattle.lb_values.specs.declared.value.Value.{Value}
use Rattle.lb_values.specs.declared.value.Value.TheVariants as value
use Rattle.lb_model.specs.declared.world.World.{World}
use Rattle.lb_values.specs.Kept.{Kept, changed, saved, undone}
use Rattle.lb_model.specs.Ranges.{fits}

-- a state: what each cell holds, Absent where it has no value
abbrev pub State : Type 0
State = Cell → Value

-- each cell holds what it may hold
abbrev pub IsState : State → Type 0
IsState s = (cell : Cell) → fits cell (s cell) ≡ true

-- the state with writes laid over: each cell that is written holds what is written, also where that is Absent
abbrev pub laid_over : (Cell → Option Value) → State → State
laid_over writes s cell = unwrap_or (writes cell) (s cell)

-- a world and a state
pub record Setting : Type 0 where
  pub world : World
  pub state : State

-- the value, or the number where there is none
abbrev pub or_number : Value → ℕ → Value
or_number value.Absent n = value.Number (pos n)
or_number v n = v

-- what a cell tells: the main file's name, the prefix, the steps and the files are the world's, the parameters of the date are the moment's
-- while the state has none, and all else is the state's
abbrev pub look : World → State → Cell → Value
look w s Job = value.Name w.main
look w s Prefix = value.Name w.prefix
look w s Steps = value.Steps w.steps
look w s (File name) = option_map_or value.Text (map.get w.files name) value.Absent
look w s (Par Year) = or_number (s (Par Year)) w.moment.year
look w s (Par Month) = or_number (s (Par Month)) w.moment.month
look w s (Par Day) = or_number (s (Par Day)) w.moment.day
look w s (Par Time) = or_number (s (Par Time)) w.moment.minutes
look w s cell = s cell

-- ---- What cells note of what they tell

-- the cells that were told while no write stood on them, in the order of first telling, each once; and whether a write stands on each cell,
-- now and at each save
pub record Notes : Type 0 where
  pub told : List Cell
  pub written : Kept Bool

-- the list, with the cell at its end where it is not there yet
abbrev pub with_cell : Cell → List Cell → List Cell
with_cell cell told = cond (list_any (cell_eq cell) told) told (told ++ cell ∷ [])

-- the notes once a cell is told
abbrev pub noted : Cell → Notes → Notes
noted cell n = cond (n.written.now cell) n (record n { told = with_cell cell n.told })

-- the notes once cells are told, one after another
abbrev pub noted_all : List Cell → Notes → Notes
noted_all [] notes = notes
noted_all (cell ∷ cells) notes = noted_all cells (noted cell notes)

-- the notes once a cell is changed, once it is saved, and once the last save is undone
abbrev pub noted_change : Reach → Cell → Notes → Notes
noted_change reach cell n = record n { written = changed reach cell true n.written }

abbrev pub noted_save : Cell → Notes → Notes
noted_save cell n = record n { written = saved cell n.written }

abbrev pub noted_undo : Notes → Notes
noted_undo n = record n { written = undone n.written }
