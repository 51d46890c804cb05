-- What a register or a parameter of a kind may be worked on by.
use Rattle.std.proofs.Common.{◌≡◌, ◌∙◌, ℤ, Some, ap, refl, true}
use Rattle.lb_base.specs.declared.glue.Glue.{Glue}
use Rattle.lb_rows.specs.declared.parameter.ParameterKind.{ParameterKind}
use Rattle.lb_rows.specs.declared.parameter.ParameterKind.TheVariants as parameter
use Rattle.lb_values.specs.declared.cell.Cell.{Cell}
use Rattle.lb_model_grammar.specs.declared.given.Quantity.{Quantity}
use Rattle.lb_model_grammar.specs.declared.given.Quantity.TheVariants as quantity
use Rattle.lb_model.specs.declared.arith.Arith.{Arith}
use Rattle.lb_model.specs.declared.arith.Arith.TheVariants.{Advance, Multiply, Divide}
use Rattle.lb_model.specs.Assignments.{arithmetic_kind, is_operand, is_operand_as, is_operand_at}

operand-as : (op : Arith) (c : Cell) (kind : ParameterKind) (by : Quantity) → arithmetic_kind c ≡ Some kind → is_operand op kind by ≡ true → is_operand_at op c by ≡ true
operand-as op c kind by e h = ap (λ k. is_operand_as k op by) e ∙ h

multiplied : (kind : ParameterKind) (n : ℤ) → is_operand Multiply kind (quantity.Number n) ≡ true
multiplied parameter.Number n = refl
multiplied parameter.Dimension n = refl
multiplied parameter.Glue n = refl

divided : (kind : ParameterKind) (n : ℤ) → is_operand Divide kind (quantity.Number n) ≡ true
divided parameter.Number n = refl
divided parameter.Dimension n = refl
divided parameter.Glue n = refl

pub may-multiply : (c : Cell) (kind : ParameterKind) (n : ℤ) → arithmetic_kind c ≡ Some kind → is_operand_at Multiply c (quantity.Number n) ≡ true
may-multiply c kind n e = operand-as Multiply c kind (quantity.Number n) e (multiplied kind n)

pub may-divide : (c : Cell) (kind : ParameterKind) (n : ℤ) → arithmetic_kind c ≡ Some kind → is_operand_at Divide c (quantity.Number n) ≡ true
may-divide c kind n e = operand-as Divide c kind (quantity.Number n) e (divided kind n)

pub may-advance-number : (c : Cell) (n : ℤ) → arithmetic_kind c ≡ Some parameter.Number → is_operand_at Advance c (quantity.Number n) ≡ true
may-advance-number c n e = operand-as Advance c parameter.Number (quantity.Number n) e refl

pub may-advance-dimension : (c : Cell) (n : ℤ) → arithmetic_kind c ≡ Some parameter.Dimension → is_operand_at Advance c (quantity.Dimen n) ≡ true
may-advance-dimension c n e = operand-as Advance c parameter.Dimension (quantity.Dimen n) e refl

pub may-advance-glue : (c : Cell) (g : Glue) → arithmetic_kind c ≡ Some parameter.Glue → is_operand_at Advance c (quantity.Skip g) ≡ true
may-advance-glue c g e = operand-as Advance c parameter.Glue (quantity.Skip g) e refl
