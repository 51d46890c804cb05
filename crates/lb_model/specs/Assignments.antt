-- What assignments set cells to: registers, parameters and codes, and arithmetic on them (TeXbook, chapter 24; tex.web, part 49, sections
-- 1224 to 1240).
use Rattle.std.specs.Prelude.{◌==◌, ◌+ℤ◌, ◌*ℤ◌, cond, nat_abs, int_div, Bool, true, false, ℤ, Option, None, Some, if◌then◌else◌}
use Rattle.std.specs.Option.{option_and_then}
use Rattle.lb_base.specs.declared.glue.Glue.{Glue}
use Rattle.lb_base.specs.declared.glue.Order.{Order}
use Rattle.lb_base.specs.declared.glue.Order.TheVariants.{Finite, Fil, Fill, Filll}
use Rattle.lb_rows.specs.declared.parameter.ParameterKind.{ParameterKind}
use Rattle.lb_rows.specs.declared.parameter.ParameterKind.TheVariants as parameter
use Rattle.lb_rows.specs.Parameters.{parameter_kind}
use Rattle.lb_values.specs.declared.cell.Cell.{Cell}
use Rattle.lb_values.specs.declared.cell.Cell.TheVariants.{Cat, Lc, Uc, Sf, Count, Dimen, Skip, Toks, Boxed, Par}
use Rattle.lb_values.specs.declared.reach.Reach.{Reach}
use Rattle.lb_values.specs.declared.value.Value.{Value}
use Rattle.lb_values.specs.declared.value.Value.TheVariants as value
use Rattle.lb_model_grammar.specs.declared.given.Quantity.{Quantity}
use Rattle.lb_model_grammar.specs.declared.given.Quantity.TheVariants as quantity
use Rattle.lb_model.specs.declared.arith.Arith.{Arith}
use Rattle.lb_model.specs.declared.arith.Arith.TheVariants.{Advance, Multiply, Divide}
use Rattle.lb_model.specs.declared.arith.Part.{Part}
use Rattle.lb_model.specs.declared.group.GroupKind.{GroupKind}
use Rattle.lb_model.specs.declared.group.GroupKind.TheVariants.{Simple, Semi, Material}
use Rattle.lb_model.specs.HeldNumbers.{held_as, held_of}
use Rattle.lb_model.specs.Kinds.{dimension_of, glue_of, number_of}
use Rattle.lb_model.specs.Ranges.{is_dimension, is_glue, is_number}
use Rattle.lb_model.specs.Stacked.{Stacked, StackedNotes, assigned, notes_assigned}

-- ---- Registers, parameters and codes

-- whether a register, a parameter or a code takes numbers: the code of a category and of a character is one; whether it takes dimensions, and
-- whether glue
abbrev pub is_number_kind : ParameterKind → Bool
is_number_kind parameter.Number = true
is_number_kind kind = false

abbrev pub is_dimension_kind : ParameterKind → Bool
is_dimension_kind parameter.Dimension = true
is_dimension_kind kind = false

abbrev pub is_glue_kind : ParameterKind → Bool
is_glue_kind parameter.Glue = true
is_glue_kind kind = false

abbrev pub takes_number : Cell → Bool
takes_number (Cat code) = true
takes_number (Lc code) = true
takes_number (Uc code) = true
takes_number (Sf code) = true
takes_number (Count n) = true
takes_number (Par p) = is_number_kind (parameter_kind p)
takes_number cell = false

abbrev pub takes_dimension : Cell → Bool
takes_dimension (Dimen n) = true
takes_dimension (Par p) = is_dimension_kind (parameter_kind p)
takes_dimension cell = false

abbrev pub takes_glue : Cell → Bool
takes_glue (Skip n) = true
takes_glue (Par p) = is_glue_kind (parameter_kind p)
takes_glue cell = false

abbrev pub takes_tokens : Cell → Bool
takes_tokens (Toks n) = true
takes_tokens cell = false

abbrev pub takes_box : Cell → Bool
takes_box (Boxed n) = true
takes_box cell = false

-- whether a value is of the kind of a register, a parameter or a code
abbrev pub takes : Cell → Value → Bool
takes cell (value.Number n) = takes_number cell
takes cell (value.Dimen n) = takes_dimension cell
takes cell (value.Glue glue) = takes_glue cell
takes cell (value.Tokens tokens) = takes_tokens cell
takes cell (value.Boxed boxed) = takes_box cell
takes cell v = false

-- what the cell holds then; None where the value is out of the cell's range
abbrev pub registered : Cell → Value → Option Value
registered cell (value.Number n) = held_of cell n
registered cell (value.Dimen n) = held_of cell n
registered cell (value.Glue glue) = cond (is_glue glue) (Some (value.Glue glue)) None
registered cell v = Some v

-- ---- Arithmetic

-- a number by another one; None where the divisor is 0. A quotient is cut toward zero
abbrev pub worked : Arith → ℤ → ℤ → Option ℤ
worked Advance n m = Some (n +ℤ m)
worked Multiply n m = Some (n *ℤ m)
worked Divide n m = cond (nat_abs m == 0) None (Some (int_div n m))

-- whether the first order is the higher one
abbrev pub is_higher : Order → Order → Bool
is_higher Filll Filll = false
is_higher Filll other = true
is_higher Fill Fill = false
is_higher Fill Filll = false
is_higher Fill other = true
is_higher Fil Finite = true
is_higher order other = false

abbrev pub or_part : Part → Part → Part
or_part a b = cond (nat_abs a.size == 0) b a

-- the sum of two parts of one order, and of two orders the part of the higher one where that is not 0
unfoldable pub part_added : Part → Part → Part
part_added a b =
    if is_higher a.order b.order then or_part a b
    else (if is_higher b.order a.order then or_part b a
    else record { size = a.size +ℤ b.size; order = a.order })

abbrev pub stretch_of : Glue → Part
stretch_of g = record { size = g.stretch; order = g.stretch_order }

abbrev pub shrink_of : Glue → Part
shrink_of g = record { size = g.shrink; order = g.shrink_order }

abbrev pub glue_from : ℤ → Part → Part → Glue
glue_from width stretch shrink = record { width = width; stretch = stretch.size; stretch_order = stretch.order; shrink = shrink.size; shrink_order = shrink.order }

abbrev pub glue_added : Glue → Glue → Glue
glue_added a b = glue_from (a.width +ℤ b.width) (part_added (stretch_of a) (stretch_of b)) (part_added (shrink_of a) (shrink_of b))

-- each of its three numbers by a number
abbrev pub glue_by : (ℤ → ℤ) → Glue → Glue
glue_by f g = record g { width = f g.width; stretch = f g.stretch; shrink = f g.shrink }

-- glue within its range
unfoldable pub glue_value : Glue → Option Value
glue_value g = cond (is_glue g) (Some (value.Glue g)) None

abbrev pub glue_worked : Arith → Glue → Quantity → Option Value
glue_worked Advance g (quantity.Skip h) = glue_value (glue_added g h)
glue_worked Multiply g (quantity.Number m) = glue_value (glue_by (λ n. n *ℤ m) g)
glue_worked Divide g (quantity.Number m) = cond (nat_abs m == 0) None (glue_value (glue_by (λ n. int_div n m) g))
glue_worked op g by = None

-- a dimension by a dimension or a number
abbrev pub dimension_worked : Arith → ℤ → Quantity → Option ℤ
dimension_worked Advance n (quantity.Dimen m) = worked Advance n m
dimension_worked Multiply n (quantity.Number m) = worked Multiply n m
dimension_worked Divide n (quantity.Number m) = worked Divide n m
dimension_worked op n by = None

abbrev pub number_worked : Arith → ℤ → Quantity → Option ℤ
number_worked op n (quantity.Number m) = worked op n m
number_worked op n by = None

-- what a cell of this kind holds then, where it holds v: None where that leaves its range, or the divisor is 0
abbrev pub arithmetic : Arith → ParameterKind → Value → Quantity → Option Value
arithmetic op parameter.Number v by = option_and_then (held_as value.Number is_number) (number_worked op (number_of v) by)
arithmetic op parameter.Dimension v by = option_and_then (held_as value.Dimen is_dimension) (dimension_worked op (dimension_of v) by)
arithmetic op parameter.Glue v by = glue_worked op (glue_of v) by

-- the kind of a register or a parameter on which there is arithmetic
abbrev pub arithmetic_kind : Cell → Option ParameterKind
arithmetic_kind (Count n) = Some parameter.Number
arithmetic_kind (Dimen n) = Some parameter.Dimension
arithmetic_kind (Skip n) = Some parameter.Glue
arithmetic_kind (Par p) = Some (parameter_kind p)
arithmetic_kind cell = None

-- whether it can be advanced, multiplied or divided by this
abbrev pub is_operand : Arith → ParameterKind → Quantity → Bool
is_operand op parameter.Number (quantity.Number m) = true
is_operand Advance parameter.Dimension (quantity.Dimen m) = true
is_operand Multiply parameter.Dimension (quantity.Number m) = true
is_operand Divide parameter.Dimension (quantity.Number m) = true
is_operand Advance parameter.Glue (quantity.Skip g) = true
is_operand Multiply parameter.Glue (quantity.Number m) = true
is_operand Divide parameter.Glue (quantity.Number m) = true
is_operand op kind by = false

-- what a cell holds once it is advanced, multiplied or divided, where it holds v
abbrev pub arithmetic_as : Option ParameterKind → Arith → Value → Quantity → Option Value
arithmetic_as None op v by = None
arithmetic_as (Some kind) op v by = arithmetic op kind v by

abbrev pub arithmetic_at : Arith → Cell → Value → Quantity → Option Value
arithmetic_at op cell v by = arithmetic_as (arithmetic_kind cell) op v by

abbrev pub is_operand_as : Option ParameterKind → Arith → Quantity → Bool
is_operand_as None op by = false
is_operand_as (Some kind) op by = is_operand op kind by

abbrev pub is_operand_at : Arith → Cell → Quantity → Bool
is_operand_at op cell by = is_operand_as (arithmetic_kind cell) op by

-- ---- Changes that may not be

-- the cell is set to the value, where there is one
abbrev pub assigned_to : {X : Type 0} → Reach → Cell → Option X → Stacked X → Stacked X
assigned_to reach cell None s = s
assigned_to reach cell (Some x) s = assigned reach cell x s

abbrev pub notes_assigned_to : Reach → Cell → Option Value → StackedNotes → StackedNotes
notes_assigned_to reach cell None n = n
notes_assigned_to reach cell (Some v) n = notes_assigned reach cell n

-- ---- Groups

abbrev pub same_kind : GroupKind → GroupKind → Bool
same_kind Simple Simple = true
same_kind Semi Semi = true
same_kind Material Material = true
same_kind a b = false

-- whether the innermost group is of this kind
abbrev pub is_innermost : GroupKind → Option GroupKind → Bool
is_innermost kind None = false
is_innermost kind (Some innermost) = same_kind kind innermost
