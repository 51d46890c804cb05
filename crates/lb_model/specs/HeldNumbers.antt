-- The values of cells that are given as numbers (TeXbook, chapter 24; tex.web, part 49): codes, counts, dimensions, counters and the numbers
-- of the kernel.
use Rattle.std.specs.Prelude.{cond, Bool, nat_lt, Option, None, Some, ℤ, pos, negsuc}
use Rattle.std.specs.Option.{option_map}
use Rattle.lb_rows.specs.declared.parameter.ParameterKind.{ParameterKind}
use Rattle.lb_rows.specs.declared.parameter.ParameterKind.TheVariants as parameter
use Rattle.lb_rows.specs.Parameters.{parameter_kind}
use Rattle.lb_values.specs.Categories.{category_at, category_code}
use Rattle.lb_values.specs.declared.cell.Cell.{Cell}
use Rattle.lb_values.specs.declared.cell.Cell.TheVariants.{Cat, Lc, Uc, Sf, Count, Dimen, Par, Counter, Fresh, Body, Toc, Matter, Style, Size}
use Rattle.lb_values.specs.declared.value.Value.{Value}
use Rattle.lb_values.specs.declared.value.Value.TheVariants as value
use Rattle.lb_model.specs.Kinds.{is_size, is_space_factor, is_style}
use Rattle.lb_model.specs.Ranges.{is_between, is_dimension, is_number}

-- a number that passes a test, as a value of a kind
abbrev pub held_as : (ℤ → Value) → (ℤ → Bool) → ℤ → Option Value
held_as of test n = cond (test n) (Some (of n)) None

-- a code of a character, from 0 to 255
abbrev pub code_value : ℤ → Option Value
code_value (pos n) = cond (nat_lt n 256) (Some (value.Code n)) None
code_value (negsuc less) = None

abbrev pub parameter_value : ParameterKind → ℤ → Option Value
parameter_value parameter.Number = held_as value.Number is_number
parameter_value parameter.Dimension = held_as value.Dimen is_dimension
parameter_value parameter.Glue = λ n. None

-- what a cell holds once it is set to a number; None where that is out of the cell's range, or the cell holds no number
unfoldable pub held_of : Cell → ℤ → Option Value
held_of (Cat code) n = option_map value.Category (category_at n)
held_of (Lc code) n = code_value n
held_of (Uc code) n = code_value n
held_of (Sf code) n = held_as value.Number is_space_factor n
held_of (Count register) n = held_as value.Number is_number n
held_of (Dimen register) n = held_as value.Dimen is_dimension n
held_of (Par p) n = parameter_value (parameter_kind p) n
held_of (Counter name) n = held_as value.Number is_number n
held_of (Fresh kind) n = held_as value.Number (is_between (pos 30) (pos 256)) n
held_of Body n = held_as value.Number (is_between (pos 0) (pos 1)) n
held_of Toc n = held_as value.Number (is_between (pos 0) (pos 1)) n
held_of Matter n = held_as value.Number (is_between (pos 0) (pos 2)) n
held_of Style n = held_as value.Number is_style n
held_of Size n = held_as value.Number is_size n
held_of cell n = None

-- the number that a value is, None where it is none
abbrev pub number_in : Value → Option ℤ
number_in (value.Category category) = Some (pos (category_code category))
number_in (value.Code code) = Some (pos code)
number_in (value.Number n) = Some n
number_in (value.Dimen n) = Some n
number_in _ = None
