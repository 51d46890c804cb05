-- What is an argument of a macro (TeXbook, chapter 20), as lists of tokens.
use Rattle.std.specs.Prelude.{◌≡◌, ◌≤◌, ◌<◌, ◌++◌, ◌&&◌, Bool, true, false, not, ℕ, List, [], ◌∷◌, length, Option, Some, None}
use Rattle.lb_base.specs.declared.token.Tok.{Tok}
use Rattle.lb_model_grammar.specs.declared.given.Given.{Given}
use Rattle.lb_model_grammar.specs.declared.given.Given.TheVariants.{Tok as AToken, Quantity as AQuantity, End}
use Rattle.lb_model_grammar.specs.declared.given.Quantity.{Quantity}
use Rattle.lb_model_grammar.specs.Arguments.{closes, is_par, level_then, opens}
use Rattle.lb_model_grammar.specs.Scans.{is_space}

-- how many braces are open behind a list, None once one closes that was not opened
abbrev pub levels : Option ℕ → List Tok → Option ℕ
levels level [] = level
levels None (t ∷ toks) = None
levels (Some level) (t ∷ toks) = levels (level_then t level) toks

-- as many braces close as open, and none closes before it opens
abbrev pub IsBalanced : List Tok → Type 0
IsBalanced toks = levels (Some 0) toks ≡ Some 0

-- the end of a paragraph, which a short macro does not take
abbrev pub is_barred : Bool → Tok → Bool
is_barred long t = is_par t && not long

pub data Fits (long : Bool) : List Tok → Type 0 where
  nothing : Fits long []
  token : {t : Tok} {toks : List Tok} → is_barred long t ≡ false → Fits long toks → Fits long (t ∷ toks)

-- tokens as they are given, and this behind them
abbrev pub before : List Tok → List Given → List Given
before [] given = given
before (t ∷ toks) given = AToken t ∷ before toks given

-- Of what was given, this balanced list stands before the delimiter, and no shorter one does
pub record IsDelimited (long : Bool) (delimiter : List Tok) (given : List Given) (body : List Tok) (rest : List Given) : Type 0 where
  pub parts : given ≡ before body (before delimiter rest)
  pub balanced : IsBalanced body
  pub fits : Fits long body
  pub shortest : (other : List Tok) (behind : List Given) → IsBalanced other → given ≡ before other (before delimiter behind)
      → length body ≤ length other

-- Whatever comes behind what was given, each balanced list before the delimiter that begins there has more than so many tokens
abbrev pub OnlyLonger : Bool → List Tok → List Given → ℕ → Type 0
OnlyLonger long delimiter given most =
    (body : List Tok) (more behind : List Given) → IsBalanced body → Fits long body → given ++ more ≡ before body (before delimiter behind) → most < length body

-- and so none begins there
abbrev pub NoneDelimited : Bool → List Tok → List Given → Type 0
NoneDelimited long delimiter given =
    (body : List Tok) (more behind : List Given) → IsBalanced body → Fits long body → given ++ more ≡ before body (before delimiter behind) → ⊥

-- what was given ends, or a paragraph that may not, behind these tokens
pub data Stops (long : Bool) : List Given → Type 0 where
  paragraph : {t : Tok} {given : List Given} → is_barred long t ≡ true → Stops long (AToken t ∷ given)
  quantity : {q : Quantity} {given : List Given} → Stops long (AQuantity q ∷ given)
  end : {given : List Given} → Stops long (End ∷ given)
  later : {t : Tok} {given : List Given} → Stops long given → Stops long (AToken t ∷ given)

-- one group: a balanced list in braces
pub record IsGroup (toks inner : List Tok) : Type 0 where
  pub opening : Tok
  pub closing : Tok
  pub opened : opens opening ≡ true
  pub closed : closes closing ≡ true
  pub balanced : IsBalanced inner
  pub parts : toks ≡ opening ∷ inner ++ closing ∷ []

-- a closing brace stands behind a balanced list
pub record ClosesAtBase (given : List Given) : Type 0 where
  pub body : List Tok
  pub closing : Tok
  pub behind : List Given
  pub closed : closes closing ≡ true
  pub balanced : IsBalanced body
  pub parts : given ≡ before body (AToken closing ∷ behind)

-- what was given begins with an argument without delimiter: spaces, and then one token, or one group without its braces
pub data IsUndelimited (long : Bool) : List Given → List Tok → List Given → Type 0 where
  blank : {t : Tok} {given rest : List Given} {arg : List Tok} → is_space t ≡ true → IsUndelimited long given arg rest
      → IsUndelimited long (AToken t ∷ given) arg rest
  token : {t : Tok} {rest : List Given} → is_space t ≡ false → opens t ≡ false → closes t ≡ false → is_barred long t ≡ false
      → IsUndelimited long (AToken t ∷ rest) (t ∷ []) rest
  group : {opening : Tok} (closing : Tok) {arg : List Tok} {given rest : List Given} → opens opening ≡ true → closes closing ≡ true → IsBalanced arg
      → Fits long arg
      → given ≡ before arg (AToken closing ∷ rest) → IsUndelimited long (AToken opening ∷ given) arg rest

-- spaces, and then a closing brace
pub data ClosesFirst : List Given → Type 0 where
  blank : {t : Tok} {given : List Given} → is_space t ≡ true → ClosesFirst given → ClosesFirst (AToken t ∷ given)
  closing : {t : Tok} {given : List Given} → closes t ≡ true → ClosesFirst (AToken t ∷ given)
