-- The grammar of glue (TeXbook, chapter 24).
use Rattle.std.specs.Prelude.{◌≡◌, Bool, true, false, ℕ, ℤ, List, [], ◌∷◌, codes}
use Rattle.lb_base.specs.declared.glue.Glue.{Glue}
use Rattle.lb_base.specs.declared.glue.Order.{Order}
use Rattle.lb_base.specs.declared.glue.Order.TheVariants.{Finite, Fil, Fill, Filll}
use Rattle.lb_base.specs.declared.token.Tok.{Tok}
use Rattle.lb_model_grammar.specs.declared.given.Given.{Given}
use Rattle.lb_model_grammar.specs.declared.given.Given.TheVariants.{Tok as AToken}
use Rattle.lb_model_grammar.specs.declared.given.Quantity.{Quantity}
use Rattle.lb_model_grammar.specs.declared.given.Quantity.TheVariants as quantity
use Rattle.lb_model_grammar.specs.declared.given.Scanned.{Scanned}
use Rattle.lb_model_grammar.specs.declared.given.Scanned.TheVariants.{Skip}
use Rattle.lb_model_grammar.specs.Dimensions.{of_width, signed_glue, units}
use Rattle.lb_model_grammar.specs.Dimensions.Unit_of.{Infinite}
use Rattle.lb_model_grammar.specs.LengthGrammar.{BySize, InUnit, IsLength, OneOf}
use Rattle.lb_model_grammar.specs.Scans.{is_letter, signed}
use Rattle.lb_model_grammar.specs.WordGrammar.{Keyword, Letters, Nothing}
use Rattle.lb_model_grammar.specs.Written.{Worth}
use Rattle.lb_model_grammar.specs.Written.Worth.{Value}

-- ---- The units of glue

-- whether a letter l stands first
abbrev pub begins_l : List Given → Bool
begins_l (AToken t ∷ given) = is_letter 108 t
begins_l given = false

-- behind `fil`, which has this order so far, as many letters l as there are, up to two
pub data Fils (behind : Order → List Given → Worth Scanned → Type 0) : Order → List Given → Worth Scanned → Type 0 where
  fil : {given : List Given} {w : Worth Scanned} → begins_l given ≡ false → behind Fil given w → Fils behind Fil given w
  fill : {given : List Given} {w : Worth Scanned} → begins_l given ≡ false → behind Fill given w → Fils behind Fill given w
  filll : {given : List Given} {w : Worth Scanned} → behind Filll given w → Fils behind Filll given w
  second : {t : Tok} {given : List Given} {w : Worth Scanned} → is_letter 108 t ≡ true → Fils behind Fill given w
      → Fils behind Fil (AToken t ∷ given) w
  third : {t : Tok} {given : List Given} {w : Worth Scanned} → is_letter 108 t ≡ true → Fils behind Filll given w
      → Fils behind Fill (AToken t ∷ given) w

-- an infinite unit, or one of a dimension
pub data GlueUnit (found : BySize) (negative : Bool) (whole fraction : ℕ) : List Given → Worth Scanned → Type 0 where
  infinite : {given : List Given} {w : Worth Scanned}
      → Letters (Fils (λ order. InUnit found negative whole fraction (Infinite order)) Fil) (codes "fil") given w
      → GlueUnit found negative whole fraction given w
  finite : {given : List Given} {w : Worth Scanned} → OneOf (InUnit found negative whole fraction) units given w
      → GlueUnit found negative whole fraction given w

-- ---- Glue

abbrev pub shrunk : Glue → Order → ℤ → Glue
shrunk g order v = record g { shrink = v; shrink_order = order }

abbrev pub stretched : Glue → Order → ℤ → Glue
stretched g order v = record g { stretch = v; stretch_order = order }

abbrev pub shrink_found : Glue → Order → ℤ → List Given → Worth Scanned → Type 0
shrink_found g order v = Nothing (Value (Skip (shrunk g order v)))

abbrev pub shrink_by : Glue → Bool → Quantity → List Given → Worth Scanned → Type 0
shrink_by g negative (quantity.Dimen v) = Nothing (Value (Skip (shrunk g Finite (signed negative v))))
shrink_by g negative q = λ all w. ⊥

-- what glue shrinks by, or nothing
pub data Shrink (g : Glue) : List Given → Worth Scanned → Type 0 where
  nothing : Shrink g [] (Value (Skip g))
  minus : {given : List Given} {w : Worth Scanned}
      → Keyword (IsLength (GlueUnit (shrink_found g)) (shrink_found g) (shrink_by g) false) (codes "minus") given w
      → Shrink g given w

abbrev pub stretch_found : Glue → Order → ℤ → List Given → Worth Scanned → Type 0
stretch_found g order v = Shrink (stretched g order v)

abbrev pub stretch_by : Glue → Bool → Quantity → List Given → Worth Scanned → Type 0
stretch_by g negative (quantity.Dimen v) = Shrink (stretched g Finite (signed negative v))
stretch_by g negative q = λ all w. ⊥

-- what it stretches by, or nothing, and then what it shrinks by
pub data Stretch (g : Glue) : List Given → Worth Scanned → Type 0 where
  nothing : {given : List Given} {w : Worth Scanned} → Shrink g given w → Stretch g given w
  plus : {given : List Given} {w : Worth Scanned}
      → Keyword (IsLength (GlueUnit (stretch_found g)) (stretch_found g) (stretch_by g) false) (codes "plus") given w
      → Stretch g given w

abbrev pub glue_found : Order → ℤ → List Given → Worth Scanned → Type 0
glue_found order v = Stretch (of_width v)

-- internal glue, and nothing behind it, or an internal dimension and what it stretches and shrinks by
abbrev pub glue_by : Bool → Quantity → List Given → Worth Scanned → Type 0
glue_by negative (quantity.Skip g) = Nothing (Value (Skip (signed_glue negative g)))
glue_by negative (quantity.Dimen v) = Stretch (of_width (signed negative v))
glue_by negative q = λ all w. ⊥

abbrev pub IsGlue : List Given → Worth Scanned → Type 0
IsGlue = IsLength (λ n whole fraction. OneOf (InUnit glue_found n whole fraction) units) glue_found glue_by false
