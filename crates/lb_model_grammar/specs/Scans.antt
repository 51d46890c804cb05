-- What a list means as the beginning of a reading, and the parts that readings share (TeXbook, chapter 24).
use Rattle.std.specs.Prelude.{◌+◌, ◌*◌, ◌-◌, ◌==◌, ◌&&◌, Bool, true, false, ℕ, ℤ, nat_le, nat_lt, min, List, [], ◌∷◌, Option, Some, None, if◌then◌else◌}
use Rattle.std.specs.Int.{int_wrapping_neg, w32}
use Rattle.lb_base.specs.declared.fault.Kind.{Kind}
use Rattle.lb_base.specs.declared.token.Category.TheVariants as category
use Rattle.lb_base.specs.declared.token.Tok.{Tok}
use Rattle.lb_base.specs.declared.token.Tok.TheVariants.{Char, Word, Active, Param}
use Rattle.lb_model_grammar.specs.declared.class.Class.{Class}
use Rattle.lb_model_grammar.specs.declared.class.Class.TheVariants.{Space, Plus, Minus, Digit, Octal, Hexadecimal, Quote, Point, Command, Other}
use Rattle.lb_model_grammar.specs.declared.given.Given.{Given}
use Rattle.lb_model_grammar.specs.declared.given.Given.TheVariants.{Tok as AToken}
use Rattle.lb_model_grammar.specs.declared.given.Want.{Want}
use Rattle.lb_model_grammar.specs.declared.given.Want.TheVariants as want

-- what a list means as the beginning of a reading: it can go on, it has a reading with things after it that are not of it, or it is wrong
pub data Meant (X : Type 0) : Type 0 where
  Open : Want → Meant X
  Ended : X → List Given → Meant X
  Wrong : Kind → Meant X

-- what is wanted next
abbrev pub want_of : {X : Type 0} → Meant X → Option Want
want_of (Open want) = Some want
want_of (Ended x rest) = Some want.Done
want_of (Wrong kind) = None

abbrev pub value_of : {X : Type 0} → Meant X → Option X
value_of (Ended x rest) = Some x
value_of meant = None

-- the tokens among things that were given
abbrev pub tokens_in : List Given → List Tok
tokens_in [] = []
tokens_in (AToken t ∷ given) = t ∷ tokens_in given
tokens_in (g ∷ given) = tokens_in given

-- the tokens that are put back
abbrev pub after_of : {X : Type 0} → Meant X → List Tok
after_of (Ended x rest) = tokens_in rest
after_of meant = []

-- one reading, and another behind it
abbrev pub behind : {X Y : Type 0} → Meant X → (X → List Given → Meant Y) → Meant Y
behind (Open want) next = Open want
behind (Ended x rest) next = next x rest
behind (Wrong kind) next = Wrong kind

-- ---- Tokens as numbers see them

abbrev pub is_space : Tok → Bool
is_space (Char category.Space code) = true
is_space tok = false

-- whether a token is this character of category 12
abbrev pub is_other : ℕ → Tok → Bool
is_other code (Char category.Other c) = c == code
is_other code tok = false

-- a decimal digit, and an upper-case letter, as a digit above 9
abbrev pub digit_value : ℕ → Option ℕ
digit_value c = if nat_le 48 c && nat_le c 57 then Some (c - 48) else None

abbrev pub letter_value : ℕ → Option ℕ
letter_value c = if nat_le 65 c && nat_le c 70 then Some (c - 55) else None

-- the first, or the second where there is none
abbrev pub or_else : {X : Type 0} → Option X → Option X → Option X
or_else (Some x) other = Some x
or_else None other = other

-- the digits below a base
abbrev pub below : ℕ → Option ℕ → Option ℕ
below base (Some d) = if nat_lt d base then Some d else None
below base None = None

-- a digit of a number in this base: decimal ones are of category 12, and A to F also letters
abbrev pub digit_of : ℕ → Tok → Option ℕ
digit_of base (Char category.Other c) = below base (or_else (digit_value c) (letter_value c))
digit_of base (Char category.Letter c) = below base (letter_value c)
digit_of base tok = None

-- what a token is where a number, a dimension or glue begins
abbrev pub sign_class : ℕ → Class
sign_class c =
    if c == 43 then Plus
    else (if c == 45 then Minus
    else (if c == 39 then Octal
    else (if c == 34 then Hexadecimal
    else (if c == 96 then Quote
    else (if c == 46 then Point else Other)))))

abbrev pub digit_class : ℕ → Option ℕ → Class
digit_class c (Some d) = Digit d
digit_class c None = sign_class c

abbrev pub class_of : Tok → Class
class_of (Char category.Space c) = Space
class_of (Char category.Other c) = digit_class c (digit_value c)
class_of (Char cat c) = Other
class_of (Word name) = Command
class_of (Active c) = Command
class_of (Param n) = Other

-- ---- Parts

abbrev pub signed : Bool → ℤ → ℤ
signed true v = int_wrapping_neg w32 v
signed false v = v

-- one more digit; from the limit on all values are alike
abbrev pub grown : ℕ → ℕ → ℕ → ℕ
grown base v d = min (base * v + d) 2147483648

-- a digit, or what stands there
abbrev pub if_digit : {X : Type 0} → Option ℕ → (ℕ → X) → X → X
if_digit (Some d) digit other = digit d
if_digit None digit other = other

-- digits behind those of this value, and then what is done with the value and what stands behind
abbrev pub digits : {X : Type 0} → ℕ → ℕ → (ℕ → List Given → Meant X) → List Given → Meant X
digits base v done [] = Open want.Expanded
digits base v done (AToken t ∷ given) = if_digit (digit_of base t) (λ d. digits base (grown base v d) done given) (done v (AToken t ∷ given))
digits base v done (g ∷ given) = done v (g ∷ given)

-- a first digit and those behind it
abbrev pub some_digits : {X : Type 0} → ℕ → (ℕ → List Given → Meant X) → Meant X → List Given → Meant X
some_digits base done missing [] = Open want.Expanded
some_digits base done missing (AToken t ∷ given) = if_digit (digit_of base t) (λ d. digits base d done given) missing
some_digits base done missing (g ∷ given) = missing

-- one space, where one comes
abbrev pub space_before : {X : Type 0} → (List Given → Meant X) → List Given → Meant X
space_before done [] = Open want.Expanded
space_before done (AToken t ∷ given) = if is_space t then done given else done (AToken t ∷ given)
space_before done (g ∷ given) = done (g ∷ given)

-- ---- Words

-- a letter of either case and any category
abbrev pub lower : ℕ → ℕ
lower c = if nat_le 65 c && nat_le c 90 then c + 32 else c

abbrev pub is_letter : ℕ → Tok → Bool
is_letter letter (Char cat c) = lower c == lower letter
is_letter letter (Active c) = lower c == lower letter
is_letter letter tok = false

-- the letters of a word, one behind another, and then what is found behind them
abbrev pub letters : {X : Type 0} → List ℕ → (List Given → Meant X) → Meant X → List Given → Meant X
letters [] found missing given = found given
letters (c ∷ word) found missing [] = Open want.Expanded
letters (c ∷ word) found missing (AToken t ∷ given) = if is_letter c t then letters word found missing given else missing
letters (c ∷ word) found missing (g ∷ given) = missing

-- a word behind spaces
abbrev pub keyword : {X : Type 0} → List ℕ → (List Given → Meant X) → Meant X → List Given → Meant X
keyword word found missing [] = Open want.Expanded
keyword word found missing (AToken t ∷ given) = if is_space t then keyword word found missing given else letters word found missing (AToken t ∷ given)
keyword word found missing (g ∷ given) = missing

-- one of some words, the first that is found
abbrev pub one_of : {X U : Type 0} → List (List ℕ × U) → (U → List Given → Meant X) → Meant X → List Given → Meant X
one_of [] found missing given = missing
one_of (u ∷ units) found missing given = letters u.0 (found u.1) (one_of units found missing given) given
