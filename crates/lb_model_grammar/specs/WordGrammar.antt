-- The grammar of keywords (TeXbook, chapter 24).
use Rattle.std.specs.Prelude.{◌≡◌, Bool, true, false, ℕ, List, [], ◌∷◌}
use Rattle.lb_base.specs.declared.token.Tok.{Tok}
use Rattle.lb_model_grammar.specs.declared.given.Given.{Given}
use Rattle.lb_model_grammar.specs.declared.given.Given.TheVariants.{Tok as AToken}
use Rattle.lb_model_grammar.specs.declared.given.Scanned.{Scanned}
use Rattle.lb_model_grammar.specs.declared.given.Scanned.TheVariants as scanned
use Rattle.lb_model_grammar.specs.Scans.{is_letter, is_space}
use Rattle.lb_model_grammar.specs.Written.{Worth}
use Rattle.lb_model_grammar.specs.Written.Worth.{Value}

-- the letters of a word one behind another, each of either case, and what stands behind them
pub data Letters {X : Type 0} (behind : List Given → Worth X → Type 0) : List ℕ → List Given → Worth X → Type 0 where
  ended : {given : List Given} {w : Worth X} → behind given w → Letters behind [] given w
  letter : {c : ℕ} {word : List ℕ} {t : Tok} {given : List Given} {w : Worth X} → is_letter c t ≡ true
      → Letters behind word given w → Letters behind (c ∷ word) (AToken t ∷ given) w

-- whether a space stands first
abbrev pub begins_blank : List Given → Bool
begins_blank (AToken t ∷ given) = is_space t
begins_blank given = false

-- a word behind spaces
pub data Keyword {X : Type 0} (behind : List Given → Worth X → Type 0) (word : List ℕ) : List Given → Worth X → Type 0 where
  blank : {t : Tok} {given : List Given} {w : Worth X} → is_space t ≡ true → Keyword behind word given w → Keyword behind word (AToken t ∷ given) w
  letters : {given : List Given} {w : Worth X} → begins_blank given ≡ false → Letters behind word given w → Keyword behind word given w

-- a keyword by itself
pub data Nothing {X : Type 0} (worth : Worth X) : List Given → Worth X → Type 0 where
  more : Nothing worth [] worth

abbrev pub IsKeyword : List ℕ → List Given → Worth Scanned → Type 0
IsKeyword word = Keyword (Nothing (Value (scanned.Found true))) word
