-- Texts that are read expanded: `{w}`, the body of `\edef`, the name of a file.
use Rattle.std.specs.Prelude.{◌++◌, ◌==◌, Bool, true, false, ℕ, zero, suc, List, [], ◌∷◌, codes, if◌then◌else◌}
use Rattle.lb_base.specs.declared.fault.Kind.TheVariants.{Runaway, TokenMisplaced}
use Rattle.lb_base.specs.declared.token.Category.TheVariants as category
use Rattle.lb_base.specs.declared.token.Tok.{Tok}
use Rattle.lb_base.specs.declared.token.Tok.TheVariants.{Char}
use Rattle.lb_model_grammar.specs.declared.given.Given.{Given}
use Rattle.lb_model_grammar.specs.declared.given.Given.TheVariants.{Tok as AToken}
use Rattle.lb_model_grammar.specs.declared.given.Want.TheVariants as want
use Rattle.lb_model_grammar.specs.Arguments.{closes, opens, longer}
use Rattle.lb_model_grammar.specs.Scans.{Meant}
use Rattle.lb_model_grammar.specs.Scans.Meant.{Open, Ended, Wrong}

-- ---- An expanded body: the tokens up to the brace that closes it

abbrev pub body_as : Bool → Bool → ℕ → List Tok → Tok → (ℕ → List Tok → Meant (List Tok)) → List Given → Meant (List Tok)
body_as true closing level toks t more given = longer toks t (more (suc level))
body_as false true zero toks t more given = Ended toks given
body_as false true (suc level) toks t more given = longer toks t (more level)
body_as false false level toks t more given = longer toks t (more level)

abbrev pub body : ℕ → List Tok → List Given → Meant (List Tok)
body level toks [] = Open want.Expanded
body level toks (AToken t ∷ given) = body_as (opens t) (closes t) level toks t (λ l ts. body l ts given) given
body level toks (g ∷ given) = Wrong Runaway

-- ---- Characters, as of a name

-- the code of a character, of whatever category
abbrev pub is_character : Tok → Bool
is_character (Char cat c) = true
is_character tok = false

abbrev pub character_code : Tok → ℕ
character_code (Char cat c) = c
character_code tok = 0

-- the characters up to the brace that closes them
abbrev pub word_as : Bool → Bool → Bool → ℕ → List ℕ → Tok → (ℕ → List ℕ → Meant (List ℕ)) → List Given → Meant (List ℕ)
word_as false opening closing level text t more given = Wrong TokenMisplaced
word_as true true closing level text t more given = more (suc level) (text ++ character_code t ∷ [])
word_as true false true zero text t more given = Ended text given
word_as true false true (suc level) text t more given = more level (text ++ character_code t ∷ [])
word_as true false false level text t more given = more level (text ++ character_code t ∷ [])

abbrev pub word : ℕ → List ℕ → List Given → Meant (List ℕ)
word level text [] = Open want.Expanded
word level text (AToken t ∷ given) = word_as (is_character t) (opens t) (closes t) level text t (λ l w. word l w given) given
word level text (g ∷ given) = Wrong Runaway

-- ---- The name of a file without braces: its characters up to a space, which is taken, or to what is no character

abbrev pub file_name : List ℕ → List Given → Meant (List ℕ)
file_name text [] = Open want.Expanded
file_name text (AToken (Char category.Space c) ∷ given) = Ended text given
file_name text (AToken t ∷ given) = if is_character t then file_name (text ++ character_code t ∷ []) given else Ended text (AToken t ∷ given)
file_name text (g ∷ given) = Ended text (g ∷ given)

-- whether the last part of a name has a dot
abbrev pub has_dot : Bool → List ℕ → Bool
has_dot seen [] = seen
has_dot seen (c ∷ name) = if c == 47 then has_dot false name else (if c == 46 then has_dot true name else has_dot seen name)

-- `.tex` is added where it has none
abbrev pub with_ending : List ℕ → List ℕ
with_ending name = if has_dot false name then name else name ++ codes ".tex"
