-- What is done at the place where a list of tokens is; and what can be set.
use Rattle.std.specs.Prelude.{ℕ, Bool, true, List, if◌then◌else◌}
use Rattle.lb_base.specs.declared.fault.Kind.TheVariants.{TokenMisplaced}
use Rattle.lb_base.specs.declared.token.Tok.{Tok}
use Rattle.lb_values.specs.declared.cell.Cell.{Cell}
use Rattle.lb_values.specs.declared.cell.Cell.TheVariants as cell
use Rattle.lb_model.specs.Assignments.{takes_dimension, takes_glue, takes_number, takes_tokens}
use Rattle.lb_model_engine.specs.Reads.{code, group_rest}
use Rattle.lb_model_engine.specs.Registers.{register_tokens}
use Rattle.lb_model_nest.specs.Wholes.{Executed, Whole, stop}
use Rattle.lb_engine.specs.declared.registers.Place.{Place}
use Rattle.lb_engine.specs.declared.registers.Place.TheVariants as place
use Rattle.lb_engine.specs.declared.settings.Family.{Family}
use Rattle.lb_engine.specs.declared.settings.Family.TheVariants as family

-- this is done with the tokens, or the row has ended where there are none
abbrev pub from_place : Place → (List Tok → Whole → Executed) → Whole → Executed
from_place place.Group row w = group_rest row w
from_place (place.Register n) row w = register_tokens n row w
from_place place.Picked row w = code (λ n v. register_tokens n row v) w
from_place place.Nowhere row w = stop TokenMisplaced w

-- whether a cell is a register, a parameter or a code that can be set
abbrev pub is_variable : Cell → Bool
is_variable c = if takes_number c then true else (if takes_dimension c then true else (if takes_glue c then true else takes_tokens c))

-- the cell of a number in a family
abbrev pub family_cell : Family → ℕ → Cell
family_cell family.Count n = cell.Count n
family_cell family.Dimen n = cell.Dimen n
family_cell family.Skip n = cell.Skip n
family_cell family.Toks n = cell.Toks n
family_cell family.Category n = cell.Cat n
family_cell family.LowerCase n = cell.Lc n
family_cell family.UpperCase n = cell.Uc n
family_cell family.SpaceFactor n = cell.Sf n
