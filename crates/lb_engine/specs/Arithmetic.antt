-- The registers and parameters of arithmetic.
use Rattle.std.specs.Prelude.{◌≡◌, ℕ, codes, Some}
use Rattle.lb_base.specs.declared.fault.Kind.TheVariants.{TokenMisplaced}
use Rattle.lb_rows.specs.declared.parameter.ParameterKind.{ParameterKind}
use Rattle.lb_rows.specs.declared.parameter.ParameterKind.TheVariants as parameter
use Rattle.lb_values.specs.Registers.{register_cell}
use Rattle.lb_values.specs.declared.cell.Cell.{Cell}
use Rattle.lb_values.specs.declared.cell.Cell.TheVariants as cell
use Rattle.lb_values.specs.declared.reach.Reach.{Reach}
use Rattle.lb_model.specs.declared.arith.Arith.{Arith}
use Rattle.lb_model.specs.Assignments.{arithmetic_kind}
use Rattle.lb_model_engine.specs.Reads.{code, keyword}
use Rattle.lb_model_engine.specs.Registers.{by_value, worked_out}
use Rattle.lb_model_nest.specs.Wholes.{Executed, Whole, stop}
use Rattle.lb_engine.specs.declared.arithmetic.Operand.{Operand}
use Rattle.lb_engine.specs.declared.arithmetic.Operand.TheVariants as operand

-- the register of a kind
abbrev pub numbered : ParameterKind → ℕ → Cell
numbered parameter.Number n = cell.Count n
numbered parameter.Dimension n = cell.Dimen n
numbered parameter.Glue n = cell.Skip n

-- this is done with it and its kind, or the row has ended where there is none
abbrev pub from_operand : Operand → (ParameterKind → Cell → Whole → Executed) → Whole → Executed
from_operand (operand.Named kind register) row w = row kind (register_cell register) w
from_operand (operand.Picked kind) row w = code (λ n v. row kind (numbered kind n) v) w
from_operand operand.Nowhere row w = stop TokenMisplaced w

-- a name is that of one of its kind
abbrev pub IsOfKind : Operand → Type 0
IsOfKind (operand.Named kind register) = arithmetic_kind (register_cell register) ≡ Some kind
IsOfKind (operand.Picked kind) = Unit {0}
IsOfKind operand.Nowhere = Unit {0}

-- it is worked out by what comes
abbrev pub worked_by : Arith → Reach → ParameterKind → Cell → Whole → Executed
worked_by op reach kind c w = by_value op kind (λ by y. worked_out op reach c by y) w

-- the same behind the keyword
abbrev pub worked_behind : Arith → Reach → ParameterKind → Cell → Whole → Executed
worked_behind op reach kind c w = keyword (codes "by") (λ found x. worked_by op reach kind c x) w
