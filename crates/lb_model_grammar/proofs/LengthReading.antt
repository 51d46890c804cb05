-- What is read of a dimension, by the grammar.
use Rattle.std.proofs.Common.{◌≡◌, ◌≤◌, Bool, true, false, ℕ, ℤ, pos, nat_lt, List, [], ◌∷◌, length, refl, arith, inr}
use Rattle.std.specs.Prelude.{◌⊎◌, if◌then◌else◌, nat_abs}
use Rattle.lb_base.specs.declared.fault.Kind.TheVariants.{DimenTooLarge, NumberMissing, UnitMissing}
use Rattle.lb_base.specs.declared.glue.Order.{Order}
use Rattle.lb_base.specs.declared.glue.Order.TheVariants.{Finite}
use Rattle.lb_base.specs.declared.token.Category.TheVariants as category
use Rattle.lb_base.specs.declared.token.Tok.{Tok}
use Rattle.lb_base.specs.declared.token.Tok.TheVariants.{Char}
use Rattle.lb_model_grammar.specs.declared.given.Given.{Given}
use Rattle.lb_model_grammar.specs.declared.given.Given.TheVariants.{Tok as AToken, Quantity as AQuantity, End}
use Rattle.lb_model_grammar.specs.declared.given.Quantity.{Quantity}
use Rattle.lb_model_grammar.specs.declared.given.Quantity.TheVariants as quantity
use Rattle.lb_model_grammar.specs.declared.given.Scanned.{Scanned}
use Rattle.lb_model_grammar.specs.declared.given.Want.{Want}
use Rattle.lb_model_grammar.specs.Dimensions.{Uses, font_unit, fraction, in_unit, internal_unit, is_negative, sized, times, xor}
use Rattle.lb_model_grammar.specs.LengthGrammar.{ByDecimal, ByQuantity, BySize, FontSize, Grammar, InternalUnit, Multiple, Sized, Spaced}
use Rattle.lb_model_grammar.specs.LengthGrammar.FontSize.{size}
use Rattle.lb_model_grammar.specs.LengthGrammar.InternalUnit.{dimen}
use Rattle.lb_model_grammar.specs.LengthGrammar.Sized.{large, small}
use Rattle.lb_model_grammar.specs.LengthGrammar.Spaced.{bare, space}
use Rattle.lb_model_grammar.specs.Scans.{Meant, is_space, one_of, signed, space_before}
use Rattle.lb_model_grammar.specs.Scans.Meant.{Wrong}
use Rattle.lb_model_grammar.specs.Written.{Answers, Reads, ReadsOr, Worth}
use Rattle.lb_model_grammar.specs.Written.Answers.{expanded, quantity as a_quantity}
use Rattle.lb_model_grammar.specs.Written.ReadsOr.{none, reads}
use Rattle.lb_model_grammar.specs.Written.Worth.{TooLarge}
use Rattle.lb_model_grammar.proofs.ReadingSteps.{Equal, Has, Same, Step, nothing-begins, reads-as, reads-behind, reads-equal}

-- what comes where a dimension does not stand
abbrev pub Lacks : Uses → Meant Scanned → Type 0
Lacks u m = (m ≡ u.missing NumberMissing) ⊎ (m ≡ u.missing UnitMissing)

-- what stands behind a dimension is read
pub record Behind (u : Uses) (table : ByDecimal) (found : BySize) (alone : ByQuantity) : Type 0 where
  pub found_reads : (order : Order) (v : ℤ) (given : List Given) → Reads (found order v) given (u.found order v given)
  pub found_has : (order : Order) (v : ℤ) → Has (found order v)
  pub alone_reads : (n : Bool) (q : Quantity) (given : List Given) → ReadsOr (Lacks u) (alone n q) given (u.alone n q given)
  pub alone_has : (n : Bool) → Has (alone n (quantity.Dimen (pos 0)))
  pub units_read : (n : Bool) (whole fraction : ℕ) (given : List Given)
      → ReadsOr (Lacks u) (table n whole fraction) given (one_of u.units (in_unit u n whole fraction) (u.missing UnitMissing) given)
  pub units_filled : (n : Bool) (whole fraction : ℕ) (w : Worth Scanned) → table n whole fraction [] w → ⊥
  -- one of the units begins with a letter p
  pub unit_rest : (n : Bool) (whole fraction : ℕ) → Has (λ all w. table n whole fraction (AToken (Char category.Letter 112) ∷ all) w)

-- ---- One space

pub spaced-has : (K : Grammar) → Has K → Has (Spaced K)
spaced-has K h = record { some = AToken (Char category.Space 32) ∷ h.some; worth = h.worth; is = space refl h.is }

pub behind-space : (K : Grammar) (t : Tok) → is_space t ≡ true → Step (Spaced K) K (AToken t)
behind-space K t e = record { into = λ all w k. space e k; onto = onto } where
  onto : (all : List Given) (w : Worth Scanned) → Spaced K (AToken t ∷ all) w → K all w
  onto all w (bare b k) = cc
  onto all w (space h k) = k

no-space : (K : Grammar) (t : Tok) → is_space t ≡ false → Same (Spaced K) K (AToken t)
no-space K t e = record { empty = λ w k. bare refl k; into = λ all w k. bare e k; onto = onto } where
  onto : (all : List Given) (w : Worth Scanned) → Spaced K (AToken t ∷ all) w → K (AToken t ∷ all) w
  onto all w (bare b k) = k
  onto all w (space h k) = cc

spaced-at : (K : Grammar) (done : List Given → Meant Scanned) → ((given : List Given) → Reads K given (done given))
    → (t : Tok) (given : List Given) (b : Bool) → is_space t ≡ b
    → Reads (Spaced K) (AToken t ∷ given) (if b then done given else done (AToken t ∷ given))
spaced-at K done r t given true e = reads-behind (behind-space K t e) given (done given) (r given)
spaced-at K done r t given false e = reads-as (no-space K t e) given (done (AToken t ∷ given)) (r (AToken t ∷ given))

pub spaced-reads : (K : Grammar) (done : List Given → Meant Scanned) → Has K → ((given : List Given) → Reads K given (done given))
    → (given : List Given) → Reads (Spaced K) given (space_before done given)
spaced-reads K done h r [] =
    record { next = AToken (Char category.Space 32); answers = expanded; more = h.some; worth = h.worth; is = space refl h.is }
spaced-reads K done h r (AToken t ∷ given) = spaced-at K done r t given (is_space t) refl
spaced-reads K done h r (AQuantity q ∷ given) =
    reads-as (record { empty = λ w k. bare refl k; into = λ all w k. bare refl k; onto = λ all w s. elim s [ bare b k ↦ k ] }) given (done (AQuantity q ∷ given)) (r (AQuantity q ∷ given))
spaced-reads K done h r (End ∷ given) =
    reads-as (record { empty = λ w k. bare refl k; into = λ all w k. bare refl k; onto = λ all w s. elim s [ bare b k ↦ k ] }) given (done (End ∷ given)) (r (End ∷ given))

-- ---- Sizes

pub sized-equal : (found : BySize) (n : Bool) (order : Order) (x : ℕ) → nat_lt x 1073741824 ≡ true
    → Equal (Sized found n order x) (found order (signed n (pos x)))
sized-equal found n order x e = record { into = λ all w k. small e k; onto = onto } where
  onto : (all : List Given) (w : Worth Scanned) → Sized found n order x all w → found order (signed n (pos x)) all w
  onto all w (small h k) = k
  onto all w (large h) = cc

sized-short : (found : BySize) (n : Bool) (order : Order) (x : ℕ) → nat_lt x 1073741824 ≡ false
    → (all : List Given) (w : Worth Scanned) → Sized found n order x all w → length all ≤ 0
sized-short found n order x e all w (small h k) = cc
sized-short found n order x e _ w (large h) = omega arith

sized-at : (u : Uses) (found : BySize)
    → ((order : Order) (v : ℤ) (given : List Given) → Reads (found order v) given (u.found order v given))
    → (n : Bool) (order : Order) (x : ℕ) (given : List Given) (b : Bool) → nat_lt x 1073741824 ≡ b
    → Reads (Sized found n order x) given (if b then u.found order (signed n (pos x)) given else Wrong DimenTooLarge)
sized-at u found r n order x given true e =
    reads-equal (sized-equal found n order x e) given (u.found order (signed n (pos x)) given) (r order (signed n (pos x)) given)
sized-at u found r n order x given false e = record {
  rest = given;
  is = record { read = []; parts = refl; is = large e; longest = λ more all behind w q i. sized-short found n order x e all w i };
}

pub sized-reads : (u : Uses) (found : BySize)
    → ((order : Order) (v : ℤ) (given : List Given) → Reads (found order v) given (u.found order v given))
    → (n : Bool) (order : Order) (x : ℕ) (given : List Given) → Reads (Sized found n order x) given (sized u n order x given)
sized-reads u found r n order x given = sized-at u found r n order x given (nat_lt x 1073741824) refl

sized-has-at : (found : BySize) → ((order : Order) (v : ℤ) → Has (found order v)) → (n : Bool) (order : Order) (x : ℕ)
    → (b : Bool) → nat_lt x 1073741824 ≡ b → Has (Sized found n order x)
sized-has-at found h n order x true e =
    let k : Has (found order (signed n (pos x))) = h order (signed n (pos x)) in
    record { some = k.some; worth = k.worth; is = small e k.is }
sized-has-at found h n order x false e = record { some = []; worth = TooLarge DimenTooLarge; is = large e }

pub sized-has : (found : BySize) → ((order : Order) (v : ℤ) → Has (found order v)) → (n : Bool) (order : Order) (x : ℕ)
    → Has (Sized found n order x)
sized-has found h n order x = sized-has-at found h n order x (nat_lt x 1073741824) refl

pub spaced-size : (u : Uses) (found : BySize) → ((order : Order) (v : ℤ) → Has (found order v))
    → ((order : Order) (v : ℤ) (given : List Given) → Reads (found order v) given (u.found order v given))
    → (n : Bool) (order : Order) (x : ℕ) (given : List Given) → Reads (Spaced (Sized found n order x)) given (space_before (sized u n order x) given)
spaced-size u found h r n order x given =
    spaced-reads (Sized found n order x) (sized u n order x) (sized-has found h n order x) (sized-reads u found r n order x) given

-- ---- Units of the font

pub behind-size : (found : BySize) (n : Bool) (whole fraction : ℕ) (v : ℤ)
    → Step (FontSize found n whole fraction) (Spaced (Multiple found n whole fraction v)) (AQuantity (quantity.Dimen v))
behind-size found n whole fraction v = record { into = λ all w k. size k; onto = λ all w s. elim s [ size k ↦ k ] }

font-not-empty : (found : BySize) (n : Bool) (whole fraction : ℕ) (w : Worth Scanned) → FontSize found n whole fraction [] w → ⊥
font-not-empty found n whole fraction w s = elim s [ ]

no-size : (u : Uses) (found : BySize) (n : Bool) (whole fraction : ℕ) (g : Given)
    → ((all : List Given) (w : Worth Scanned) → FontSize found n whole fraction (g ∷ all) w → ⊥) → (given : List Given)
    → ReadsOr (Lacks u) (FontSize found n whole fraction) (g ∷ given) (u.missing UnitMissing)
no-size u found n whole fraction g at given =
    none (inr refl) (nothing-begins (FontSize found n whole fraction) g given (font-not-empty found n whole fraction) at)

pub font-reads : (u : Uses) (found : BySize) → ((order : Order) (v : ℤ) → Has (found order v))
    → ((order : Order) (v : ℤ) (given : List Given) → Reads (found order v) given (u.found order v given))
    → (asked : Want) → Answers asked (AQuantity (quantity.Dimen (pos 0))) → (n : Bool) (whole fraction : ℕ) (given : List Given)
    → ReadsOr (Lacks u) (FontSize found n whole fraction) given (font_unit u asked n whole fraction given)
font-reads u found h r asked a n whole fraction [] =
    let k : Has (Spaced (Multiple found n whole fraction (pos 0))) = spaced-has (Multiple found n whole fraction (pos 0)) (sized-has found h (xor n false) Finite (times whole fraction 0)) in
    reads (record { next = AQuantity (quantity.Dimen (pos 0)); answers = a; more = k.some; worth = k.worth; is = size k.is })
font-reads u found h r asked a n whole fraction (AQuantity (quantity.Dimen v) ∷ given) =
    reads (reads-behind (behind-size found n whole fraction v) given _ (spaced-size u found h r (xor n (is_negative v)) Finite (times whole fraction (nat_abs v)) given))
font-reads u found h r asked a n whole fraction (AQuantity quantity.NotOne ∷ given) =
    no-size u found n whole fraction (AQuantity quantity.NotOne) (λ all w s. elim s [ ]) given
font-reads u found h r asked a n whole fraction (AQuantity (quantity.Number q) ∷ given) =
    no-size u found n whole fraction (AQuantity (quantity.Number q)) (λ all w s. elim s [ ]) given
font-reads u found h r asked a n whole fraction (AQuantity (quantity.Skip q) ∷ given) =
    no-size u found n whole fraction (AQuantity (quantity.Skip q)) (λ all w s. elim s [ ]) given
font-reads u found h r asked a n whole fraction (AToken t ∷ given) = no-size u found n whole fraction (AToken t) (λ all w s. elim s [ ]) given
font-reads u found h r asked a n whole fraction (End ∷ given) = no-size u found n whole fraction End (λ all w s. elim s [ ]) given

-- ---- Internal units

pub behind-dimen : (found : BySize) (n : Bool) (whole fraction : ℕ) (v : ℤ)
    → Step (InternalUnit found n whole fraction) (Multiple found n whole fraction v) (AQuantity (quantity.Dimen v))
behind-dimen found n whole fraction v = record { into = λ all w k. dimen k; onto = λ all w s. elim s [ dimen k ↦ k ] }

no-dimen : (u : Uses) (found : BySize) (n : Bool) (whole fraction : ℕ) (g : Given)
    → ((all : List Given) (w : Worth Scanned) → InternalUnit found n whole fraction (g ∷ all) w → ⊥) → (given : List Given)
    → ReadsOr (Lacks u) (InternalUnit found n whole fraction) (g ∷ given) (u.missing UnitMissing)
no-dimen u found n whole fraction g at given = none (inr refl) (nothing-begins (InternalUnit found n whole fraction) g given (λ w s. elim s [ ]) at)

pub internal-unit-reads : (u : Uses) (found : BySize) → ((order : Order) (v : ℤ) → Has (found order v))
    → ((order : Order) (v : ℤ) (given : List Given) → Reads (found order v) given (u.found order v given))
    → (n : Bool) (whole fraction : ℕ) (given : List Given)
    → ReadsOr (Lacks u) (InternalUnit found n whole fraction) given (internal_unit u n whole fraction given)
internal-unit-reads u found h r n whole fraction [] =
    let k : Has (Multiple found n whole fraction (pos 0)) = sized-has found h (xor n false) Finite (times whole fraction 0) in
    reads (record { next = AQuantity (quantity.Dimen (pos 0)); answers = a_quantity; more = k.some; worth = k.worth; is = dimen k.is })
internal-unit-reads u found h r n whole fraction (AQuantity (quantity.Dimen v) ∷ given) =
    reads (reads-behind (behind-dimen found n whole fraction v) given _ (sized-reads u found r (xor n (is_negative v)) Finite (times whole fraction (nat_abs v)) given))
internal-unit-reads u found h r n whole fraction (AQuantity quantity.NotOne ∷ given) =
    no-dimen u found n whole fraction (AQuantity quantity.NotOne) (λ all w s. elim s [ ]) given
internal-unit-reads u found h r n whole fraction (AQuantity (quantity.Number q) ∷ given) =
    no-dimen u found n whole fraction (AQuantity (quantity.Number q)) (λ all w s. elim s [ ]) given
internal-unit-reads u found h r n whole fraction (AQuantity (quantity.Skip q) ∷ given) =
    no-dimen u found n whole fraction (AQuantity (quantity.Skip q)) (λ all w s. elim s [ ]) given
internal-unit-reads u found h r n whole fraction (AToken t ∷ given) = no-dimen u found n whole fraction (AToken t) (λ all w s. elim s [ ]) given
internal-unit-reads u found h r n whole fraction (End ∷ given) = no-dimen u found n whole fraction End (λ all w s. elim s [ ]) given
