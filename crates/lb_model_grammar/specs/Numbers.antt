-- Numbers (TeXbook, chapter 24): signs and spaces, and then digits, a character, or an internal number.
use Rattle.std.specs.Prelude.{Bool, not, ℕ, pos, nat_lt, List, [], ◌∷◌, if◌then◌else◌}
use Rattle.lb_base.specs.declared.fault.Kind.TheVariants.{NumberMissing, NumberTooBig}
use Rattle.lb_base.specs.declared.token.Tok.TheVariants.{Char, Word, Active}
use Rattle.lb_model_grammar.specs.declared.class.Class.{Class}
use Rattle.lb_model_grammar.specs.declared.given.Given.{Given}
use Rattle.lb_model_grammar.specs.declared.given.Given.TheVariants.{Tok as AToken, Quantity as AQuantity}
use Rattle.lb_model_grammar.specs.declared.given.Quantity.TheVariants as quantity
use Rattle.lb_model_grammar.specs.declared.given.Scanned.{Scanned}
use Rattle.lb_model_grammar.specs.declared.given.Scanned.TheVariants as scanned
use Rattle.lb_model_grammar.specs.declared.given.Want.TheVariants as want
use Rattle.lb_model_grammar.specs.Scans.{Meant, class_of, digits, signed, some_digits, space_before}
use Rattle.lb_model_grammar.specs.Scans.Meant.{Open, Ended, Wrong}
use Rattle.lb_model_grammar.specs.declared.class.Class.TheVariants.{Space, Plus, Minus, Digit, Octal, Hexadecimal, Quote, Point, Command, Other}

-- a number whose digits have this value
abbrev pub ended : Bool → ℕ → List Given → Meant Scanned
ended negative v rest = if nat_lt v 2147483648 then Ended (scanned.Number (signed negative (pos v))) rest else Wrong NumberTooBig

-- the same, and one space that may stand behind it
abbrev pub closed : Bool → ℕ → List Given → Meant Scanned
closed negative v = space_before (ended negative v)

-- the character behind a backquote, not expanded: itself, or the control sequence whose name it is
abbrev pub character : Bool → List Given → Meant Scanned
character negative [] = Open want.Plain
character negative (AToken (Char cat c) ∷ given) = closed negative c given
character negative (AToken (Active c) ∷ given) = closed negative c given
character negative (AToken (Word (c ∷ [])) ∷ given) = closed negative c given
character negative (g ∷ given) = Wrong NumberMissing

-- the quantity that begins with a control sequence
abbrev pub internal : Bool → List Given → Meant Scanned
internal negative [] = Open want.Quantity
internal negative (AQuantity (quantity.Number n) ∷ given) = Ended (scanned.Number (signed negative n)) given
internal negative (g ∷ given) = Wrong NumberMissing

-- what begins with a token of this class
abbrev pub number_as : Class → Bool → (Bool → Meant Scanned) → List Given → Meant Scanned
number_as Space negative more given = more negative
number_as Plus negative more given = more negative
number_as Minus negative more given = more (not negative)
number_as (Digit d) negative more given = digits 10 d (closed negative) given
number_as Octal negative more given = some_digits 8 (closed negative) (Wrong NumberMissing) given
number_as Hexadecimal negative more given = some_digits 16 (closed negative) (Wrong NumberMissing) given
number_as Quote negative more given = character negative given
number_as Command negative more given = internal negative given
number_as Point negative more given = Wrong NumberMissing
number_as Other negative more given = Wrong NumberMissing

-- a number behind signs
abbrev pub number : Bool → List Given → Meant Scanned
number negative [] = Open want.Expanded
number negative (AToken t ∷ given) = number_as (class_of t) negative (λ n. number n given) given
number negative (g ∷ given) = Wrong NumberMissing
