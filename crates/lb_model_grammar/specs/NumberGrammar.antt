-- The grammar of numbers (TeXbook, chapter 24).
use Rattle.std.specs.Prelude.{◌≡◌, ◌+◌, ◌*◌, Bool, true, not, ℕ, ℤ, pos, nat_lt, List, [], ◌∷◌, Option, Some, None, if◌then◌else◌}
use Rattle.lb_base.specs.declared.fault.Kind.TheVariants.{NumberTooBig}
use Rattle.lb_base.specs.declared.token.Tok.{Tok}
use Rattle.lb_base.specs.declared.token.Tok.TheVariants.{Char, Word, Active}
use Rattle.lb_model_grammar.specs.declared.class.Class.TheVariants.{Space, Plus, Minus, Digit, Octal, Hexadecimal, Quote, Command}
use Rattle.lb_model_grammar.specs.declared.given.Given.{Given}
use Rattle.lb_model_grammar.specs.declared.given.Given.TheVariants.{Tok as AToken, Quantity as AQuantity}
use Rattle.lb_model_grammar.specs.declared.given.Quantity.TheVariants as quantity
use Rattle.lb_model_grammar.specs.declared.given.Scanned.{Scanned}
use Rattle.lb_model_grammar.specs.declared.given.Scanned.TheVariants as scanned
use Rattle.lb_model_grammar.specs.Scans.{class_of, digit_of, is_space, signed}
use Rattle.lb_model_grammar.specs.Written.{Worth}
use Rattle.lb_model_grammar.specs.Written.Worth.{Value, TooLarge}

-- a constant of this value, behind minus signs or not: numbers reach 2147483647
abbrev pub worth_of : Bool → ℕ → Worth Scanned
worth_of negative v = if nat_lt v 2147483648 then Value (scanned.Number (signed negative (pos v))) else TooLarge NumberTooBig

-- behind the last token of a constant one space, or none
pub data Closing : Bool → ℕ → List Given → Worth Scanned → Type 0 where
  bare : {n : Bool} {v : ℕ} → Closing n v [] (worth_of n v)
  space : {n : Bool} {v : ℕ} {t : Tok} → is_space t ≡ true → Closing n v (AToken t ∷ []) (worth_of n v)

-- more digits of a base behind those of a value, and what stands behind digits of each value
pub data Digits {X : Type 0} (base : ℕ) (behind : ℕ → List Given → Worth X → Type 0) : ℕ → List Given → Worth X → Type 0 where
  last : {v : ℕ} {given : List Given} {w : Worth X} → behind v given w → Digits base behind v given w
  digit : {v d : ℕ} {t : Tok} {given : List Given} {w : Worth X} → digit_of base t ≡ Some d
      → Digits base behind (base * v + d) given w → Digits base behind v (AToken t ∷ given) w

-- one digit or more
pub data FirstDigit (base : ℕ) : Bool → List Given → Worth Scanned → Type 0 where
  first : {n : Bool} {d : ℕ} {t : Tok} {given : List Given} {w : Worth Scanned} → digit_of base t ≡ Some d
      → Digits base (Closing n) d given w → FirstDigit base n (AToken t ∷ given) w

-- the code of a character, or of the one whose control sequence this is
abbrev pub code_of : Tok → Option ℕ
code_of (Char cat c) = Some c
code_of (Active c) = Some c
code_of (Word (c ∷ [])) = Some c
code_of tok = None

pub data Character : Bool → List Given → Worth Scanned → Type 0 where
  code : {n : Bool} {c : ℕ} {t : Tok} {given : List Given} {w : Worth Scanned} → code_of t ≡ Some c
      → Closing n c given w → Character n (AToken t ∷ given) w

-- the number that a control sequence stands for
pub data Internal : Bool → List Given → Worth Scanned → Type 0 where
  number : {n : Bool} {q : ℤ} → Internal n (AQuantity (quantity.Number q) ∷ []) (Value (scanned.Number (signed n q)))

-- a number, where an odd number of minus signs stands before it or not
pub data IsNumber : Bool → List Given → Worth Scanned → Type 0 where
  blank : {n : Bool} {t : Tok} {given : List Given} {w : Worth Scanned} → class_of t ≡ Space → IsNumber n given w → IsNumber n (AToken t ∷ given) w
  plus : {n : Bool} {t : Tok} {given : List Given} {w : Worth Scanned} → class_of t ≡ Plus → IsNumber n given w → IsNumber n (AToken t ∷ given) w
  minus : {n : Bool} {t : Tok} {given : List Given} {w : Worth Scanned} → class_of t ≡ Minus → IsNumber (not n) given w
      → IsNumber n (AToken t ∷ given) w
  decimal : {n : Bool} {d : ℕ} {t : Tok} {given : List Given} {w : Worth Scanned} → class_of t ≡ Digit d → Digits 10 (Closing n) d given w
      → IsNumber n (AToken t ∷ given) w
  octal : {n : Bool} {t : Tok} {given : List Given} {w : Worth Scanned} → class_of t ≡ Octal → FirstDigit 8 n given w
      → IsNumber n (AToken t ∷ given) w
  hexadecimal : {n : Bool} {t : Tok} {given : List Given} {w : Worth Scanned} → class_of t ≡ Hexadecimal → FirstDigit 16 n given w
      → IsNumber n (AToken t ∷ given) w
  character : {n : Bool} {t : Tok} {given : List Given} {w : Worth Scanned} → class_of t ≡ Quote → Character n given w
      → IsNumber n (AToken t ∷ given) w
  internal : {n : Bool} {t : Tok} {given : List Given} {w : Worth Scanned} → class_of t ≡ Command → Internal n given w
      → IsNumber n (AToken t ∷ given) w
