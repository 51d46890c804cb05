-- What is read of a dimension by itself.
use Rattle.std.proofs.Common.{◌≡◌, ◌++◌, ◌+◌, ◌*◌, ◌/◌, ◌≤◌, Bool, false, not, ℕ, ℤ, pos, List, [], ◌∷◌, length, refl, subst, arith, inl, inr, take}
use Rattle.std.specs.Prelude.{◌⊎◌, nat_abs}
use Rattle.lb_base.specs.Decimals.{fraction_from_digits}
use Rattle.lb_base.specs.declared.fault.Kind.{Kind}
use Rattle.lb_base.specs.declared.fault.Kind.TheVariants.{DimenTooLarge, NumberMissing, NumberTooBig, UnitMissing}
use Rattle.lb_base.specs.declared.glue.Order.{Order}
use Rattle.lb_base.specs.declared.glue.Order.TheVariants.{Finite}
use Rattle.lb_base.specs.declared.token.Category.TheVariants as category
use Rattle.lb_base.specs.declared.token.Tok.TheVariants.{Char}
use Rattle.lb_model_grammar.specs.declared.given.Given.{Given}
use Rattle.lb_model_grammar.specs.declared.given.Given.TheVariants.{Tok as AToken, Quantity as AQuantity}
use Rattle.lb_model_grammar.specs.declared.given.Quantity.{Quantity}
use Rattle.lb_model_grammar.specs.declared.given.Quantity.TheVariants as quantity
use Rattle.lb_model_grammar.specs.declared.given.Scanned.{Scanned}
use Rattle.lb_model_grammar.specs.declared.given.Scanned.TheVariants as scanned
use Rattle.lb_model_grammar.specs.declared.given.Want.{Want}
use Rattle.lb_model_grammar.specs.declared.given.Want.TheVariants as want
use Rattle.lb_model_grammar.specs.Dimensions.{Unit_of, Uses, dimension, dimension_alone, units, fraction, in_unit, is_negative, times, xor}
use Rattle.lb_model_grammar.specs.Dimensions.Unit_of.{Infinite, OfFont, Physical, Scaled}
use Rattle.lb_model_grammar.specs.LengthGrammar.{BehindWhole, ByDecimal, ByQuantity, BySize, FontSize, Fraction, Grammar, InUnit, IsDimension, IsLength, Multiple, OneOf, Sized, Spaced, UnitOf, dimen_alone, found_alone}
use Rattle.lb_model_grammar.specs.LengthGrammar.Alone.{by_itself}
use Rattle.lb_model_grammar.specs.LengthGrammar.BehindWhole.{large as whole_large, small as whole_small}
use Rattle.lb_model_grammar.specs.LengthGrammar.FontSize.{size}
use Rattle.lb_model_grammar.specs.LengthGrammar.Fraction.{digit as fraction_digit, unit as fraction_unit}
use Rattle.lb_model_grammar.specs.LengthGrammar.InternalUnit.{dimen}
use Rattle.lb_model_grammar.specs.LengthGrammar.IsLength.{blank, decimal, fraction as point_first, internal as an_internal, minus, plus}
use Rattle.lb_model_grammar.specs.LengthGrammar.PointOrUnit.{point as a_point, unit as no_point}
use Rattle.lb_model_grammar.specs.LengthGrammar.Sized.{large, small}
use Rattle.lb_model_grammar.specs.LengthGrammar.Spaced.{bare, space}
use Rattle.lb_model_grammar.specs.LengthGrammar.UnitOf.{blank as unit_blank, internal as unit_internal, letters as unit_letters}
use Rattle.lb_model_grammar.specs.NumberGrammar.{Digits}
use Rattle.lb_model_grammar.specs.NumberGrammar.Digits.{digit, last}
use Rattle.lb_model_grammar.specs.Scans.{Meant, signed}
use Rattle.lb_model_grammar.specs.Scans.Meant.{Open, Ended, Wrong}
use Rattle.lb_model_grammar.specs.WordGrammar.{Letters, Nothing}
use Rattle.lb_model_grammar.specs.WordGrammar.Nothing.{more as nothing_more}
use Rattle.lb_model_grammar.specs.WordGrammar.Letters.{ended, letter}
use Rattle.lb_model_grammar.specs.LengthGrammar.OneOf.{here, there}
use Rattle.lb_model_grammar.specs.Written.{GoesOn, IsRead, IsTooLarge, NoneBegins, Reads, ReadsOr, Worth}
use Rattle.lb_model_grammar.specs.Written.Answers.{em, ex}
use Rattle.lb_model_grammar.specs.Written.ReadsOr.{none, reads}
use Rattle.lb_model_grammar.specs.Written.Worth.{TooLarge, Value}
use Rattle.lb_model_grammar.proofs.DecimalReading.{length-reads}
use Rattle.lb_model_grammar.proofs.LengthReading.{Behind, Lacks, font-reads, sized-has, spaced-has, spaced-size}
use Rattle.lb_model_grammar.proofs.UnitReading.{Each, table-not-empty, table-reads}
use Rattle.lb_model_grammar.proofs.UnitReading.Each.{next, no_more}
use Rattle.lb_model_grammar.proofs.ReadingSteps.{Has}

pub units-each : (u : Uses) (found : BySize) → ((order : Order) (v : ℤ) → Has (found order v))
    → ((order : Order) (v : ℤ) (given : List Given) → Reads (found order v) given (u.found order v given))
    → (n : Bool) (whole fraction : ℕ) → Each (Lacks u) (InUnit found n whole fraction) (in_unit u n whole fraction) units
units-each u found h r n whole fraction =
    physical _ _ (physical _ _ (physical _ _ (physical _ _ (physical _ _ (physical _ _ (physical _ _ (physical _ _
    (next scaled.some scaled.worth scaled.is (λ rest. reads (spaced-size u found h r n Finite whole rest))
    (next font.some font.worth font.is (font-reads u found h r want.Em em n whole fraction)
    (next font.some font.worth font.is (font-reads u found h r want.Ex ex n whole fraction) no_more)))))))))) where
      scaled : Has (Spaced (Sized found n Finite whole))
      scaled = spaced-has (Sized found n Finite whole) (sized-has found h n Finite whole)

      font : Has (FontSize found n whole fraction)
      font =
          let k : Has (Spaced (Multiple found n whole fraction (pos 0))) = spaced-has (Multiple found n whole fraction (pos 0)) (sized-has found h (xor n false) Finite (times whole fraction 0)) in
          record { some = AQuantity (quantity.Dimen (pos 0)) ∷ k.some; worth = k.worth; is = size k.is }

      physical : (a b : ℕ) {word : List ℕ} {table : List (List ℕ × Unit_of)}
          → Each (Lacks u) (InUnit found n whole fraction) (in_unit u n whole fraction) table
          → Each (Lacks u) (InUnit found n whole fraction) (in_unit u n whole fraction) ((word, Physical a b) ∷ table)
      physical a b each =
          let k : Has (Spaced (Sized found n Finite (a * (65536 * whole + fraction) / b))) = spaced-has (Sized found n Finite (a * (65536 * whole + fraction) / b)) (sized-has found h n Finite (a * (65536 * whole + fraction) / b)) in
          next k.some k.worth k.is (λ rest. reads (spaced-size u found h r n Finite (a * (65536 * whole + fraction) / b) rest)) each

-- a unit that begins with p
pub point-rest : (found : BySize) → ((order : Order) (v : ℤ) → Has (found order v)) → (n : Bool) (whole fraction : ℕ)
    → Has (λ all w. OneOf (InUnit found n whole fraction) units (AToken (Char category.Letter 112) ∷ all) w)
point-rest found h n whole fraction =
    let size : ℕ = 1 * (65536 * whole + fraction) / 1 in
    let k : Has (Spaced (Sized found n Finite size)) = spaced-has (Sized found n Finite size) (sized-has found h n Finite size) in
    record { some = AToken (Char category.Letter 116) ∷ k.some; worth = k.worth; is = here (letter refl (letter refl (ended k.is))) }

pub nothing-more : {X : Type 0} (x : X) (given : List Given) → IsRead (Nothing (Value x)) given (Value x) given
nothing-more x given = record { read = []; parts = refl; is = nothing_more; longest = λ more all behind w e i. short all w i } where
  short : (all : List Given) (w : Worth _) → Nothing (Value x) all w → length all ≤ 0
  short _ w nothing_more = omega arith

abbrev by_itself_uses : Uses
by_itself_uses = record { units = units; found = λ order v rest. Ended (scanned.Dimen v) rest; alone = dimension_alone; missing = Wrong }

abbrev units_alone : Bool → ℕ → ℕ → List Given → Worth Scanned → Type 0
units_alone n whole fraction = OneOf (InUnit found_alone n whole fraction) units

pub nothing-has : (x : Scanned) → Has (Nothing (Value x))
nothing-has x = record { some = []; worth = Value x; is = nothing_more }

dimension-behind : Behind by_itself_uses units_alone found_alone dimen_alone
dimension-behind = record {
  found_reads = λ order v given. nothing-more (scanned.Dimen v) given;
  found_has = λ order v. nothing-has (scanned.Dimen v);
  alone_reads = alone_reads;
  alone_has = λ n. nothing-has (scanned.Dimen (signed n (pos 0)));
  units_read =
      λ n whole fraction given. table-reads (Lacks by_itself_uses) (InUnit found_alone n whole fraction) (in_unit by_itself_uses n whole fraction) (Wrong UnitMissing) (inr refl) units refl
      (units-each by_itself_uses found_alone (λ order v. nothing-has (scanned.Dimen v)) (λ order v all. nothing-more (scanned.Dimen v) all) n whole fraction) given;
  units_filled = λ n whole fraction w. table-not-empty (InUnit found_alone n whole fraction) units w refl;
  unit_rest = point-rest found_alone (λ order v. nothing-has (scanned.Dimen v));
} where
  alone_reads : (n : Bool) (q : Quantity) (given : List Given) → ReadsOr (Lacks by_itself_uses) (dimen_alone n q) given (dimension_alone n q given)
  alone_reads n (quantity.Dimen v) given = reads (nothing-more (scanned.Dimen (signed n v)) given)
  alone_reads n quantity.NotOne given = none (inl refl) (λ more all behind w e r. r)
  alone_reads n (quantity.Number q) given = none (inl refl) (λ more all behind w e r. r)
  alone_reads n (quantity.Skip q) given = none (inl refl) (λ more all behind w e r. r)

pub dimension-reads : (given : List Given) → ReadsOr (Lacks by_itself_uses) IsDimension given (dimension given)
dimension-reads given = length-reads by_itself_uses units_alone found_alone dimen_alone dimension-behind false given

-- ---- By what the list means

pub dimension-read : (given rest : List Given) (x : Scanned) → dimension given ≡ Ended x rest → IsRead IsDimension given (Value x) rest
dimension-read given rest x e = by (dimension-reads given) where
  by : ReadsOr (Lacks by_itself_uses) IsDimension given (dimension given) → IsRead IsDimension given (Value x) rest
  by (reads r) = subst (λ (m : Meant Scanned). Reads IsDimension given m) e r
  by (none (inl m) n) = cc
  by (none (inr m) n) = cc

pub dimension-goes_on : (given : List Given) (want : Want) → dimension given ≡ Open want → GoesOn IsDimension given want
dimension-goes_on given want e = by (dimension-reads given) where
  by : ReadsOr (Lacks by_itself_uses) IsDimension given (dimension given) → GoesOn IsDimension given want
  by (reads r) = subst (λ (m : Meant Scanned). Reads IsDimension given m) e r
  by (none (inl m) n) = cc
  by (none (inr m) n) = cc

pub dimension-wrong : (given : List Given) (kind : Kind) → dimension given ≡ Wrong kind
    → IsTooLarge IsDimension given kind ⊎ (((kind ≡ NumberMissing) ⊎ (kind ≡ UnitMissing)) × NoneBegins IsDimension given)
dimension-wrong given kind e = by (dimension-reads given) where
  by : ReadsOr (Lacks by_itself_uses) IsDimension given (dimension given)
      → IsTooLarge IsDimension given kind ⊎ (((kind ≡ NumberMissing) ⊎ (kind ≡ UnitMissing)) × NoneBegins IsDimension given)
  by (reads r) = inl (subst (λ (m : Meant Scanned). Reads IsDimension given m) e r)
  by (none (inl m) n) = inr (inl cc, n)
  by (none (inr m) n) = inr (inr cc, n)

-- ---- What dimensions are worth

pub spaced-all : (P : Worth Scanned → Type 0) (K : Grammar) → ((all : List Given) (w : Worth Scanned) → K all w → P w)
    → (all : List Given) (w : Worth Scanned) → Spaced K all w → P w
spaced-all P K k all w (bare b r) = k all w r
spaced-all P K k _ w (space {given = all} h r) = k all w r

pub sized-all : (P : Worth Scanned → Type 0) → P (TooLarge DimenTooLarge) → (found : BySize)
    → ((order : Order) (v : ℤ) (all : List Given) (w : Worth Scanned) → found order v all w → P w)
    → (n : Bool) (order : Order) (x : ℕ) (all : List Given) (w : Worth Scanned) → Sized found n order x all w → P w
sized-all P p found f n order x all w (small h r) = f order (signed n (pos x)) all w r
sized-all P p found f n order x _ _ (large h) = p

font-all : (P : Worth Scanned → Type 0) → P (TooLarge DimenTooLarge) → (found : BySize)
    → ((order : Order) (v : ℤ) (all : List Given) (w : Worth Scanned) → found order v all w → P w)
    → (n : Bool) (whole fraction : ℕ) (all : List Given) (w : Worth Scanned) → FontSize found n whole fraction all w → P w
font-all P p found f n whole fraction _ w (size {v = v} {given = all} r) =
    spaced-all P (Multiple found n whole fraction v) (sized-all P p found f (xor n (is_negative v)) Finite (times whole fraction (nat_abs v))) all w r

pub in-unit-all : (P : Worth Scanned → Type 0) → P (TooLarge DimenTooLarge) → (found : BySize)
    → ((order : Order) (v : ℤ) (all : List Given) (w : Worth Scanned) → found order v all w → P w)
    → (n : Bool) (whole fraction : ℕ) (u : Unit_of) (all : List Given) (w : Worth Scanned) → InUnit found n whole fraction u all w → P w
in-unit-all P p found f n whole fraction (Physical a b) all w r =
    spaced-all P _ (sized-all P p found f n Finite (a * (65536 * whole + fraction) / b)) all w r
in-unit-all P p found f n whole fraction Scaled all w r = spaced-all P _ (sized-all P p found f n Finite whole) all w r
in-unit-all P p found f n whole fraction (OfFont asked) all w r = font-all P p found f n whole fraction all w r
in-unit-all P p found f n whole fraction (Infinite order) all w r = spaced-all P _ (sized-all P p found f n order (65536 * whole + fraction)) all w r

pub letters-all : (P : Worth Scanned → Type 0) (K : Grammar) → ((all : List Given) (w : Worth Scanned) → K all w → P w)
    → (word : List ℕ) (all : List Given) (w : Worth Scanned) → Letters K word all w → P w
letters-all P K k _ all w (ended r) = k all w r
letters-all P K k _ _ w (letter {word = word} {given = all} h r) = letters-all P K k word all w r

pub one-of-all : (P : Worth Scanned → Type 0) (K : Unit_of → List Given → Worth Scanned → Type 0)
    → ((u : Unit_of) (all : List Given) (w : Worth Scanned) → K u all w → P w)
    → (table : List (List ℕ × Unit_of)) (all : List Given) (w : Worth Scanned) → OneOf K table all w → P w
one-of-all P K k _ all w (here {u = u} r) = letters-all P (K u.1) (k u.1) u.0 all w r
one-of-all P K k _ all w (there {table = table} r) = one-of-all P K k table all w r

unit-all : (P : Worth Scanned → Type 0) → P (TooLarge DimenTooLarge) → (table : ByDecimal) (found : BySize)
    → ((order : Order) (v : ℤ) (all : List Given) (w : Worth Scanned) → found order v all w → P w)
    → ((n : Bool) (whole fraction : ℕ) (all : List Given) (w : Worth Scanned) → table n whole fraction all w → P w)
    → (n : Bool) (whole fraction : ℕ) (all : List Given) (w : Worth Scanned) → UnitOf table found n whole fraction all w → P w
unit-all P p table found f k n whole fraction _ w (unit_blank {given = all} h r) = unit-all P p table found f k n whole fraction all w r
unit-all P p table found f k n whole fraction _ w (unit_internal h (dimen {v = v} {given = all} r)) =
    sized-all P p found f (xor n (is_negative v)) Finite (times whole fraction (nat_abs v)) all w r
unit-all P p table found f k n whole fraction _ w (unit_letters {t = t} {given = all} h r) =
    k n whole fraction (AToken t ∷ all) w r

fraction-all : (P : Worth Scanned → Type 0) → P (TooLarge DimenTooLarge) → (table : ByDecimal) (found : BySize)
    → ((order : Order) (v : ℤ) (all : List Given) (w : Worth Scanned) → found order v all w → P w)
    → ((n : Bool) (whole fraction : ℕ) (all : List Given) (w : Worth Scanned) → table n whole fraction all w → P w)
    → (n : Bool) (whole : ℕ) (ds : List ℕ) (all : List Given) (w : Worth Scanned) → Fraction table found n whole ds all w → P w
fraction-all P p table found f k n whole ds _ w (fraction_digit {d = d} {given = all} h r) =
    fraction-all P p table found f k n whole (ds ++ d ∷ []) all w r
fraction-all P p table found f k n whole ds all w (fraction_unit h r) =
    unit-all P p table found f k n whole (fraction_from_digits (take 17 ds)) all w r

whole-all : (P : Worth Scanned → Type 0) → P (TooLarge DimenTooLarge) → P (TooLarge NumberTooBig) → (table : ByDecimal) (found : BySize)
    → ((order : Order) (v : ℤ) (all : List Given) (w : Worth Scanned) → found order v all w → P w)
    → ((n : Bool) (whole fraction : ℕ) (all : List Given) (w : Worth Scanned) → table n whole fraction all w → P w)
    → (n : Bool) (whole : ℕ) (all : List Given) (w : Worth Scanned) → BehindWhole table found n whole all w → P w
whole-all P p q table found f k n whole _ w (whole_small h d (a_point {given = all} e r)) = fraction-all P p table found f k n whole [] all w r
whole-all P p q table found f k n whole _ w (whole_small h d (no_point {t = t} {given = all} e r)) =
    unit-all P p table found f k n whole 0 (AToken t ∷ all) w r
whole-all P p q table found f k n whole _ _ (whole_large h) = q

digits-all : (P : Worth Scanned → Type 0) (K : ℕ → List Given → Worth Scanned → Type 0)
    → ((v : ℕ) (all : List Given) (w : Worth Scanned) → K v all w → P w)
    → (v : ℕ) (all : List Given) (w : Worth Scanned) → Digits 10 K v all w → P w
digits-all P K k v all w (last r) = k v all w r
digits-all P K k v _ w (digit {d = d} {given = all} h r) = digits-all P K k (10 * v + d) all w r

-- what holds of all that stands behind a dimension, and of what is too large, holds of it
pub length-all : (P : Worth Scanned → Type 0) → P (TooLarge DimenTooLarge) → P (TooLarge NumberTooBig) → (table : ByDecimal)
    → (found : BySize) (alone : ByQuantity)
    → ((order : Order) (v : ℤ) (all : List Given) (w : Worth Scanned) → found order v all w → P w)
    → ((n : Bool) (whole fraction : ℕ) (all : List Given) (w : Worth Scanned) → table n whole fraction all w → P w)
    → ((n : Bool) (q : Quantity) (all : List Given) (w : Worth Scanned) → alone n q all w → P w)
    → (n : Bool) (all : List Given) (w : Worth Scanned) → IsLength table found alone n all w → P w
length-all P p q table found alone f k a n _ w (blank {given = all} h r) = length-all P p q table found alone f k a n all w r
length-all P p q table found alone f k a n _ w (plus {given = all} h r) = length-all P p q table found alone f k a n all w r
length-all P p q table found alone f k a n _ w (minus {given = all} h r) = length-all P p q table found alone f k a (not n) all w r
length-all P p q table found alone f k a n _ w (decimal {d = d} {given = all} h r) =
    digits-all P (BehindWhole table found n) (whole-all P p q table found f k n) d all w r
length-all P p q table found alone f k a n _ w (point_first {given = all} h r) = fraction-all P p table found f k n 0 [] all w r
length-all P p q table found alone f k a n _ w (an_internal h (by_itself {q = y} {given = all} r)) = a n y all w r

-- what is too large is a size or a whole part
abbrev pub IsFine : Worth Scanned → Type 0
IsFine (Value x) = Unit {0}
IsFine (TooLarge kind) = (kind ≡ DimenTooLarge) ⊎ (kind ≡ NumberTooBig)

dimension-fine : (all : List Given) (w : Worth Scanned) → IsDimension all w → IsFine w
dimension-fine all w r = length-all IsFine (inl refl) (inr refl) units_alone found_alone dimen_alone found_fine
    (λ n whole fraction. one-of-all IsFine (InUnit found_alone n whole fraction) (in-unit-all IsFine (inl refl) found_alone found_fine n whole fraction) units) alone_fine false all w r where
      found_fine : (order : Order) (v : ℤ) (all : List Given) (w : Worth Scanned) → found_alone order v all w → IsFine w
      found_fine order v _ _ nothing_more = tt

      alone_fine : (n : Bool) (q : Quantity) (all : List Given) (w : Worth Scanned) → dimen_alone n q all w → IsFine w
      alone_fine n (quantity.Dimen v) _ _ nothing_more = tt
      alone_fine n quantity.NotOne all w r = absurd r
      alone_fine n (quantity.Number v) all w r = absurd r
      alone_fine n (quantity.Skip v) all w r = absurd r

pub dimension-missing : (given : List Given) (kind : Kind) → dimension given ≡ Wrong kind → (kind ≡ NumberMissing) ⊎ (kind ≡ UnitMissing)
    → NoneBegins IsDimension given
dimension-missing given kind e h = by (dimension-wrong given kind e) where
  by : IsTooLarge IsDimension given kind ⊎ (((kind ≡ NumberMissing) ⊎ (kind ≡ UnitMissing)) × NoneBegins IsDimension given)
      → NoneBegins IsDimension given
  by (inr n) = n.1
  by (inl t) = absurd (never h (dimension-fine t.is.read (TooLarge kind) t.is.is)) where
    never : (kind ≡ NumberMissing) ⊎ (kind ≡ UnitMissing) → (kind ≡ DimenTooLarge) ⊎ (kind ≡ NumberTooBig) → ⊥
    never (inl a) (inl b) = cc
    never (inl a) (inr b) = cc
    never (inr a) (inl b) = cc
    never (inr a) (inr b) = cc

pub dimension-too_large : (given : List Given) (kind : Kind) → dimension given ≡ Wrong kind → (kind ≡ DimenTooLarge) ⊎ (kind ≡ NumberTooBig)
    → IsTooLarge IsDimension given kind
dimension-too_large given kind e h = by (dimension-wrong given kind e) where
  by : IsTooLarge IsDimension given kind ⊎ (((kind ≡ NumberMissing) ⊎ (kind ≡ UnitMissing)) × NoneBegins IsDimension given)
      → IsTooLarge IsDimension given kind
  by (inl t) = t
  by (inr n) = absurd (never n.0 h) where
    never : (kind ≡ NumberMissing) ⊎ (kind ≡ UnitMissing) → (kind ≡ DimenTooLarge) ⊎ (kind ≡ NumberTooBig) → ⊥
    never (inl a) (inl b) = cc
    never (inl a) (inr b) = cc
    never (inr a) (inl b) = cc
    never (inr a) (inr b) = cc

pub dimension-faults : (given : List Given) (kind : Kind) → dimension given ≡ Wrong kind
    → ((kind ≡ DimenTooLarge) ⊎ (kind ≡ NumberTooBig)) ⊎ ((kind ≡ NumberMissing) ⊎ (kind ≡ UnitMissing))
dimension-faults given kind e = by (dimension-wrong given kind e) where
  by : IsTooLarge IsDimension given kind ⊎ (((kind ≡ NumberMissing) ⊎ (kind ≡ UnitMissing)) × NoneBegins IsDimension given)
      → ((kind ≡ DimenTooLarge) ⊎ (kind ≡ NumberTooBig)) ⊎ ((kind ≡ NumberMissing) ⊎ (kind ≡ UnitMissing))
  by (inl t) = inl (dimension-fine t.is.read (TooLarge kind) t.is.is)
  by (inr n) = inr n.0
