-- The grammar of dimensions (TeXbook, chapter 24), of which one may say what stands behind them.
use Rattle.std.specs.Prelude.{◌≡◌, ◌+◌, ◌*◌, ◌/◌, ◌++◌, Bool, true, false, not, ℕ, ℤ, pos, nat_abs, nat_lt, List, [], ◌∷◌, Some, take}
use Rattle.lb_base.specs.Decimals.{fraction_from_digits}
use Rattle.lb_base.specs.declared.fault.Kind.TheVariants.{DimenTooLarge, NumberTooBig}
use Rattle.lb_base.specs.declared.glue.Order.{Order}
use Rattle.lb_base.specs.declared.glue.Order.TheVariants.{Finite}
use Rattle.lb_base.specs.declared.token.Tok.{Tok}
use Rattle.lb_model_grammar.specs.declared.class.Class.{Class}
use Rattle.lb_model_grammar.specs.declared.class.Class.TheVariants.{Space, Plus, Minus, Digit, Point, Command}
use Rattle.lb_model_grammar.specs.declared.given.Given.{Given}
use Rattle.lb_model_grammar.specs.declared.given.Given.TheVariants.{Tok as AToken, Quantity as AQuantity}
use Rattle.lb_model_grammar.specs.declared.given.Quantity.{Quantity}
use Rattle.lb_model_grammar.specs.declared.given.Quantity.TheVariants as quantity
use Rattle.lb_model_grammar.specs.declared.given.Scanned.{Scanned}
use Rattle.lb_model_grammar.specs.declared.given.Scanned.TheVariants as scanned
use Rattle.lb_model_grammar.specs.Dimensions.{Unit_of, is_negative, times, units, xor}
use Rattle.lb_model_grammar.specs.Dimensions.Unit_of.{Infinite, OfFont, Physical, Scaled}
use Rattle.lb_model_grammar.specs.NumberGrammar.{Digits}
use Rattle.lb_model_grammar.specs.Scans.{class_of, digit_of, if_digit, is_other, is_space, signed}
use Rattle.lb_model_grammar.specs.WordGrammar.{Letters, Nothing, begins_blank}
use Rattle.lb_model_grammar.specs.Written.{Worth}
use Rattle.lb_model_grammar.specs.Written.Worth.{TooLarge, Value}

-- lists and what they are worth
abbrev pub Grammar : Type 1
Grammar = List Given → Worth Scanned → Type 0

-- what stands behind a size of this order
abbrev pub BySize : Type 1
BySize = Order → ℤ → List Given → Worth Scanned → Type 0

-- what stands behind an internal quantity, with a minus sign before it or not
abbrev pub ByQuantity : Type 1
ByQuantity = Bool → Quantity → List Given → Worth Scanned → Type 0

-- units behind a sign, a whole part and a fraction in 65536ths
abbrev pub ByDecimal : Type 1
ByDecimal = Bool → ℕ → ℕ → List Given → Worth Scanned → Type 0

-- one space, where one comes
pub data Spaced (behind : Grammar) : List Given → Worth Scanned → Type 0 where
  bare : {given : List Given} {w : Worth Scanned} → begins_blank given ≡ false → behind given w → Spaced behind given w
  space : {t : Tok} {given : List Given} {w : Worth Scanned} → is_space t ≡ true → behind given w → Spaced behind (AToken t ∷ given) w

-- a size below 2 ^ 30 with its sign, and what stands behind it
pub data Sized (found : BySize) (negative : Bool) (order : Order) (size : ℕ) : List Given → Worth Scanned → Type 0 where
  small : {given : List Given} {w : Worth Scanned} → nat_lt size 1073741824 ≡ true → found order (signed negative (pos size)) given w
      → Sized found negative order size given w
  large : nat_lt size 1073741824 ≡ false → Sized found negative order size [] (TooLarge DimenTooLarge)

-- an internal dimension, so many times
abbrev pub Multiple : BySize → Bool → ℕ → ℕ → ℤ → List Given → Worth Scanned → Type 0
Multiple found negative whole fraction v = Sized found (xor negative (is_negative v)) Finite (times whole fraction (nat_abs v))

-- the size of a unit of the font
pub data FontSize (found : BySize) (negative : Bool) (whole fraction : ℕ) : List Given → Worth Scanned → Type 0 where
  size : {v : ℤ} {given : List Given} {w : Worth Scanned} → Spaced (Multiple found negative whole fraction v) given w
      → FontSize found negative whole fraction (AQuantity (quantity.Dimen v) ∷ given) w

-- what stands behind the letters of a unit
abbrev pub InUnit : BySize → Bool → ℕ → ℕ → Unit_of → List Given → Worth Scanned → Type 0
InUnit found negative whole fraction (Physical n d) = Spaced (Sized found negative Finite (n * (65536 * whole + fraction) / d))
InUnit found negative whole fraction Scaled = Spaced (Sized found negative Finite whole)
InUnit found negative whole fraction (OfFont asked) = FontSize found negative whole fraction
InUnit found negative whole fraction (Infinite order) = Spaced (Sized found negative order (65536 * whole + fraction))

-- one of some units
pub data OneOf (in_unit : Unit_of → List Given → Worth Scanned → Type 0) : List (List ℕ × Unit_of) → List Given → Worth Scanned → Type 0 where
  here : {u : List ℕ × Unit_of} {table : List (List ℕ × Unit_of)} {given : List Given} {w : Worth Scanned} → Letters (in_unit u.1) u.0 given w
      → OneOf in_unit (u ∷ table) given w
  there : {u : List ℕ × Unit_of} {table : List (List ℕ × Unit_of)} {given : List Given} {w : Worth Scanned} → OneOf in_unit table given w
      → OneOf in_unit (u ∷ table) given w

-- the dimension that a control sequence stands for in place of a unit
pub data InternalUnit (found : BySize) (negative : Bool) (whole fraction : ℕ) : List Given → Worth Scanned → Type 0 where
  dimen : {v : ℤ} {given : List Given} {w : Worth Scanned} → Multiple found negative whole fraction v given w
      → InternalUnit found negative whole fraction (AQuantity (quantity.Dimen v) ∷ given) w

-- a token that may begin the letters of a unit
abbrev pub begins_unit : Class → Bool
begins_unit Space = false
begins_unit Command = false
begins_unit class = true

-- the unit behind a decimal, as its value takes it: its letters, or a control sequence, behind spaces
pub data UnitOf (in_units : ByDecimal) (found : BySize) (negative : Bool) (whole fraction : ℕ) : List Given → Worth Scanned → Type 0 where
  blank : {t : Tok} {given : List Given} {w : Worth Scanned} → class_of t ≡ Space → UnitOf in_units found negative whole fraction given w
      → UnitOf in_units found negative whole fraction (AToken t ∷ given) w
  internal : {t : Tok} {given : List Given} {w : Worth Scanned} → class_of t ≡ Command → InternalUnit found negative whole fraction given w
      → UnitOf in_units found negative whole fraction (AToken t ∷ given) w
  letters : {t : Tok} {given : List Given} {w : Worth Scanned} → begins_unit (class_of t) ≡ true
      → in_units negative whole fraction (AToken t ∷ given) w → UnitOf in_units found negative whole fraction (AToken t ∷ given) w

-- whether a digit stands first
abbrev pub begins_digit : List Given → Bool
begins_digit (AToken t ∷ given) = if_digit (digit_of 10 t) (λ d. true) false
begins_digit given = false

-- digits behind a point, of which the first 17 count, and the unit
pub data Fraction (in_units : ByDecimal) (found : BySize) (negative : Bool) (whole : ℕ) : List ℕ → List Given → Worth Scanned → Type 0 where
  digit : {d : ℕ} {digits : List ℕ} {t : Tok} {given : List Given} {w : Worth Scanned} → digit_of 10 t ≡ Some d
      → Fraction in_units found negative whole (digits ++ d ∷ []) given w → Fraction in_units found negative whole digits (AToken t ∷ given) w
  unit : {digits : List ℕ} {given : List Given} {w : Worth Scanned} → begins_digit given ≡ false
      → UnitOf in_units found negative whole (fraction_from_digits (take 17 digits)) given w → Fraction in_units found negative whole digits given w

-- behind the whole part of a decimal a point and digits, or the unit
pub data PointOrUnit (in_units : ByDecimal) (found : BySize) (negative : Bool) (whole : ℕ) : List Given → Worth Scanned → Type 0 where
  point : {t : Tok} {given : List Given} {w : Worth Scanned} → is_other 46 t ≡ true → Fraction in_units found negative whole [] given w
      → PointOrUnit in_units found negative whole (AToken t ∷ given) w
  unit : {t : Tok} {given : List Given} {w : Worth Scanned} → is_other 46 t ≡ false → UnitOf in_units found negative whole 0 (AToken t ∷ given) w
      → PointOrUnit in_units found negative whole (AToken t ∷ given) w

-- a whole part reaches 2147483647. No digit stands behind its last one
pub data BehindWhole (in_units : ByDecimal) (found : BySize) (negative : Bool) (whole : ℕ) : List Given → Worth Scanned → Type 0 where
  small : {given : List Given} {w : Worth Scanned} → nat_lt whole 2147483648 ≡ true → begins_digit given ≡ false
      → PointOrUnit in_units found negative whole given w
      → BehindWhole in_units found negative whole given w
  large : nat_lt whole 2147483648 ≡ false → BehindWhole in_units found negative whole [] (TooLarge NumberTooBig)

-- an internal quantity by itself, and what may stand behind it
pub data Alone (alone : ByQuantity) (negative : Bool) : List Given → Worth Scanned → Type 0 where
  by_itself : {q : Quantity} {given : List Given} {w : Worth Scanned} → alone negative q given w → Alone alone negative (AQuantity q ∷ given) w

-- a dimension in these units, where an odd number of minus signs stands before it or not
pub data IsLength (in_units : ByDecimal) (found : BySize) (alone : ByQuantity) : Bool → List Given → Worth Scanned → Type 0 where
  blank : {n : Bool} {t : Tok} {given : List Given} {w : Worth Scanned} → class_of t ≡ Space → IsLength in_units found alone n given w
      → IsLength in_units found alone n (AToken t ∷ given) w
  plus : {n : Bool} {t : Tok} {given : List Given} {w : Worth Scanned} → class_of t ≡ Plus → IsLength in_units found alone n given w
      → IsLength in_units found alone n (AToken t ∷ given) w
  minus : {n : Bool} {t : Tok} {given : List Given} {w : Worth Scanned} → class_of t ≡ Minus → IsLength in_units found alone (not n) given w
      → IsLength in_units found alone n (AToken t ∷ given) w
  decimal : {n : Bool} {d : ℕ} {t : Tok} {given : List Given} {w : Worth Scanned} → class_of t ≡ Digit d
      → Digits 10 (BehindWhole in_units found n) d given w → IsLength in_units found alone n (AToken t ∷ given) w
  fraction : {n : Bool} {t : Tok} {given : List Given} {w : Worth Scanned} → class_of t ≡ Point → Fraction in_units found n 0 [] given w
      → IsLength in_units found alone n (AToken t ∷ given) w
  internal : {n : Bool} {t : Tok} {given : List Given} {w : Worth Scanned} → class_of t ≡ Command → Alone alone n given w
      → IsLength in_units found alone n (AToken t ∷ given) w

-- ---- A dimension by itself

abbrev pub found_alone : Order → ℤ → List Given → Worth Scanned → Type 0
found_alone order v = Nothing (Value (scanned.Dimen v))

abbrev pub dimen_alone : Bool → Quantity → List Given → Worth Scanned → Type 0
dimen_alone negative (quantity.Dimen v) = Nothing (Value (scanned.Dimen (signed negative v)))
dimen_alone negative q = λ all w. ⊥

abbrev pub IsDimension : List Given → Worth Scanned → Type 0
IsDimension = IsLength (λ n whole fraction. OneOf (InUnit found_alone n whole fraction) units) found_alone dimen_alone false
