-- What it is to read by a grammar. A grammar says of a list of tokens and quantities whether it is written by the rules, and what it stands for.
use Rattle.std.specs.Prelude.{◌≡◌, ◌≤◌, ◌++◌, ℤ, List, ◌∷◌, length}
use Rattle.lb_base.specs.declared.fault.Kind.{Kind}
use Rattle.lb_base.specs.declared.token.Tok.{Tok}
use Rattle.lb_model_grammar.specs.declared.given.Given.{Given}
use Rattle.lb_model_grammar.specs.declared.given.Given.TheVariants.{Tok as AToken, Quantity as AQuantity}
use Rattle.lb_model_grammar.specs.declared.given.Quantity.{Quantity}
use Rattle.lb_model_grammar.specs.declared.given.Quantity.TheVariants.{Dimen}
use Rattle.lb_model_grammar.specs.declared.given.Want.{Want}
use Rattle.lb_model_grammar.specs.declared.given.Want.TheVariants as want
use Rattle.lb_model_grammar.specs.Scans.{Meant}
use Rattle.lb_model_grammar.specs.Scans.Meant.{Open, Ended, Wrong}

-- what a list stands for: a value, or one that is too large
pub data Worth (X : Type 0) : Type 0 where
  Value : X → Worth X
  TooLarge : Kind → Worth X

-- what may be given where this is wanted
pub data Answers : Want → Given → Type 0 where
  expanded : {t : Tok} → Answers want.Expanded (AToken t)
  plain : {t : Tok} → Answers want.Plain (AToken t)
  quantity : {q : Quantity} → Answers want.Quantity (AQuantity q)
  em : {v : ℤ} → Answers want.Em (AQuantity (Dimen v))
  ex : {v : ℤ} → Answers want.Ex (AQuantity (Dimen v))

-- The first things of what was given are written by the grammar and are worth this. Whatever comes behind all that was given, no longer list
-- that begins there is
pub record IsRead {X : Type 0} (G : List Given → Worth X → Type 0) (given : List Given) (worth : Worth X) (rest : List Given) : Type 0 where
  pub read : List Given
  pub parts : given ≡ read ++ rest
  pub is : G read worth
  pub longest : (more all behind : List Given) (other : Worth X) → given ++ more ≡ all ++ behind → G all other → length all ≤ length read

-- The grammar has a list that begins with all that was given and goes on with what is wanted
pub record GoesOn {X : Type 0} (G : List Given → Worth X → Type 0) (given : List Given) (want : Want) : Type 0 where
  pub next : Given
  pub answers : Answers want next
  pub more : List Given
  pub worth : Worth X
  pub is : G (given ++ next ∷ more) worth

-- Whatever comes behind what was given, no list that begins there is written by the grammar
abbrev pub NoneBegins : {X : Type 0} → (List Given → Worth X → Type 0) → List Given → Type 0
NoneBegins {X} G given = (more all behind : List Given) (worth : Worth X) → given ++ more ≡ all ++ behind → G all worth → ⊥

-- what is read is too large
pub record IsTooLarge {X : Type 0} (G : List Given → Worth X → Type 0) (given : List Given) (kind : Kind) : Type 0 where
  pub rest : List Given
  pub is : IsRead G given (TooLarge kind) rest

-- what the beginning of a reading means, by the grammar alone
abbrev pub Reads : {X : Type 0} → (List Given → Worth X → Type 0) → List Given → Meant X → Type 0
Reads G given (Open want) = GoesOn G given want
Reads G given (Ended x rest) = IsRead G given (Value x) rest
Reads G given (Wrong kind) = IsTooLarge G given kind

-- the same, or nothing that is written by the grammar begins there, and then it is one of these
pub data ReadsOr {X : Type 0} (missing : Meant X → Type 0) (G : List Given → Worth X → Type 0) (given : List Given) (meant : Meant X) : Type 0 where
  reads : Reads G given meant → ReadsOr missing G given meant
  none : missing meant → NoneBegins G given → ReadsOr missing G given meant

-- what is meant where this is read, and this stands behind it
abbrev pub outcome : {X : Type 0} → Worth X → List Given → Meant X
outcome (Value x) rest = Ended x rest
outcome (TooLarge kind) rest = Wrong kind
