-- The cells of names.
use Rattle.std.specs.Prelude.{◌≡◌, Bool, true, false}
use Rattle.lb_values.specs.declared.cell.Cell.{Cell}
use Rattle.lb_values.specs.declared.cell.Cell.TheVariants.{Word, Active}
use Rattle.lb_engine.specs.declared.reading.Reading.{Reading}
use Rattle.lb_engine.specs.declared.reading.Reading.TheVariants as reading

-- whether a cell is that of a control sequence or an active character
abbrev pub is_name : Cell → Bool
is_name (Word name) = true
is_name (Active code) = true
is_name c = false

-- what was read is such a cell
abbrev pub IsName : Reading Cell → Type 0
IsName (reading.Of c) = is_name c ≡ true
IsName (reading.Stops went) = Unit {0}
