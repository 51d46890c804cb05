-- What contracts see of a state.
use Rattle.std.specs.Prelude.{List, Option, Some, None, unwrap_or}
use Rattle.lb_base.specs.declared.moment.Moment.{Moment}
use Rattle.lb_rows.specs.declared.parameter.Parameter.{Parameter}
use Rattle.lb_rows.specs.declared.parameter.Parameter.TheVariants.{Year, Month, Day, Time}
use Rattle.lb_values.specs.declared.cell.Cell.{Cell}
use Rattle.lb_values.specs.declared.value.Value.{Value}
use Rattle.lb_values.specs.declared.value.Value.TheVariants.{Absent}
use Rattle.lb_values.specs.Kept.{Kept, Save, mapped, put}
use Rattle.lb_model.specs.Settings.{State, or_number}
use Rattle.lb_maps.specs.CellMap.{at, held_now}

-- the shared entries, those that are written over them, the standing saves of these, and those that were written as the run began; where
-- None is written, nothing is
pub record StateCells : Type 0 where
  pub base : List (Cell × Value)
  pub over : List (Cell × Option Value)
  pub saves : List (Save (Option Value))
  pub begun : List (Cell × Option Value)

-- what entries hold: a cell without one is Absent
abbrev pub state_of : List (Cell × Value) → State
state_of entries = held_now Absent entries

-- what a cell holds where this is written over it
abbrev pub told_over : State → Cell → Option Value → Value
told_over base cell written = unwrap_or written (base cell)

-- what the cells hold now, and the standing saves
abbrev pub cells_of : StateCells → Kept Value
cells_of s = mapped (told_over (state_of s.base)) (record { now = held_now None s.over; saves = s.saves })

-- what the cells hold now, and what they held as the run began
abbrev pub told_state : StateCells → State
told_state s cell = told_over (state_of s.base) cell (held_now None s.over cell)

abbrev pub begun_state : StateCells → State
begun_state s cell = told_over (state_of s.base) cell (held_now None s.begun cell)

-- the first that is there
abbrev pub or_else : {X : Type 0} → Option X → Option X → Option X
or_else (Some x) other = Some x
or_else None other = other

-- what is stored for a cell
abbrev pub stored_at : StateCells → Cell → Option Value
stored_at s cell = or_else (held_now None s.over cell) (at s.base cell)

-- writes put over others
abbrev pub written_over : (Cell → Option Value) → (Cell → Option Value) → Cell → Option Value
written_over writes old cell = or_else (writes cell) (old cell)

-- one write put over others
abbrev pub put_write : Cell → Option Value → (Cell → Option Value) → Cell → Option Value
put_write cell None old = old
put_write cell (Some value) old = put cell (Some value) old

-- a value that is there
abbrev pub present : Value → Option Value
present Absent = None
present v = Some v

-- what a parameter tells where the state holds v: one of the date, where that is nothing, the moment's number
abbrev pub told_parameter : Moment → Parameter → Value → Value
told_parameter moment Year v = or_number v moment.year
told_parameter moment Month v = or_number v moment.month
told_parameter moment Day v = or_number v moment.day
told_parameter moment Time v = or_number v moment.minutes
told_parameter moment parameter v = v
