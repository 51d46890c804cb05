-- A list is one number, dimension or glue at most.
use Rattle.std.proofs.Common.{codes, ◌≡◌, ◌∙◌, ◌++◌, ◌+◌, ◌*◌, ◌/◌, Bool, true, false, not, ℕ, ℤ, pos, List, [], ◌∷◌, refl, ap, sym, take}
use Rattle.std.specs.Prelude.{◌&&◌, Option, nat_abs}
use Rattle.lb_base.specs.Decimals.{fraction_from_digits}
use Rattle.lb_base.specs.declared.glue.Order.{Order}
use Rattle.lb_base.specs.declared.glue.Order.TheVariants.{Finite, Fil, Fill, Filll}
use Rattle.lb_model_grammar.specs.declared.class.Class.TheVariants.{Space, Plus, Minus, Digit, Point, Command}
use Rattle.lb_model_grammar.specs.declared.given.Given.{Given}
use Rattle.lb_model_grammar.specs.declared.given.Given.TheVariants.{Tok as AToken, Quantity as AQuantity}
use Rattle.lb_model_grammar.specs.declared.given.Quantity.{Quantity}
use Rattle.lb_model_grammar.specs.declared.given.Quantity.TheVariants as quantity
use Rattle.lb_model_grammar.specs.declared.given.Scanned.{Scanned}
use Rattle.lb_model_grammar.specs.declared.given.Scanned.TheVariants as scanned
use Rattle.lb_base.specs.declared.glue.Glue.{Glue}
use Rattle.lb_model_grammar.specs.GlueGrammar.{Fils, GlueUnit, IsGlue, Shrink, Stretch, glue_by, glue_found, shrink_by, shrink_found, shrunk, stretch_by, stretch_found, stretched}
use Rattle.lb_model_grammar.specs.GlueGrammar.Fils.{fil, fill, filll, second, third}
use Rattle.lb_model_grammar.specs.GlueGrammar.GlueUnit.{finite, infinite}
use Rattle.lb_model_grammar.specs.GlueGrammar.Shrink.{minus as shrinks, nothing as no_shrink}
use Rattle.lb_model_grammar.specs.GlueGrammar.Stretch.{nothing as no_stretch, plus as stretches}
use Rattle.lb_model_grammar.specs.LengthGrammar.OneOf.{here, there}
use Rattle.lb_model_grammar.specs.WordGrammar.Keyword.{blank as key_blank, letters as key_letters}
use Rattle.lb_model_grammar.specs.WordGrammar.Letters.{ended, letter}
use Rattle.lb_model_grammar.specs.WordGrammar.Nothing.{more as nothing_more}
use Rattle.lb_model_grammar.specs.Dimensions.{of_width, signed_glue, units, Unit_of, fraction, is_negative, times, xor}
use Rattle.lb_model_grammar.specs.Dimensions.Unit_of.{Infinite, OfFont, Physical, Scaled}
use Rattle.lb_model_grammar.specs.LengthGrammar.{BehindWhole, ByDecimal, ByQuantity, BySize, FontSize, Fraction, Grammar, InUnit, IsDimension, IsLength, Multiple, OneOf, PointOrUnit, Sized, Spaced, UnitOf, begins_unit, dimen_alone, found_alone}
use Rattle.lb_model_grammar.specs.LengthGrammar.Alone.{by_itself}
use Rattle.lb_model_grammar.specs.LengthGrammar.BehindWhole.{large as whole_large, small as whole_small}
use Rattle.lb_model_grammar.specs.LengthGrammar.FontSize.{size}
use Rattle.lb_model_grammar.specs.LengthGrammar.Fraction.{digit as fraction_digit, unit as fraction_unit}
use Rattle.lb_model_grammar.specs.LengthGrammar.InternalUnit.{dimen}
use Rattle.lb_model_grammar.specs.LengthGrammar.IsLength.{blank, decimal, fraction as point_first, internal as an_internal, minus, plus}
use Rattle.lb_model_grammar.specs.LengthGrammar.PointOrUnit.{point as a_point, unit as no_point}
use Rattle.lb_model_grammar.specs.LengthGrammar.Sized.{large, small}
use Rattle.lb_model_grammar.specs.LengthGrammar.Spaced.{bare, space}
use Rattle.lb_model_grammar.specs.LengthGrammar.UnitOf.{blank as unit_blank, internal as unit_internal, letters as unit_letters}
use Rattle.lb_model_grammar.specs.NumberGrammar.{Digits}
use Rattle.lb_model_grammar.specs.NumberGrammar.Digits.{digit, last}
use Rattle.lb_model_grammar.specs.Scans.{if_digit, signed}
use Rattle.lb_model_grammar.specs.WordGrammar.{Keyword, Letters, Nothing}
use Rattle.lb_model_grammar.specs.Written.{Worth}
use Rattle.lb_model_grammar.specs.Written.Worth.{Value}
use Rattle.lb_model_grammar.proofs.LengthReading.{behind-dimen, behind-size, behind-space, sized-equal}
use Rattle.lb_model_grammar.proofs.DecimalReading.{after-of, behind-digit, behind-fraction, behind-point, behind-quantity, unit-command, unit-space, whole-onto}
use Rattle.lb_model_grammar.proofs.FilReading.{behind-second, behind-third, three}
use Rattle.lb_model_grammar.proofs.UnitReading.{all_apart, apart, apart-differs, apart_from, letters-differs, table-differs}
use Rattle.lb_model_grammar.proofs.WordReading.{behind-blank, behind-letter, none-left}

spaced-one : (K : Grammar) → ((all : List Given) (x y : Worth Scanned) → K all x → K all y → x ≡ y) → (all : List Given) (x y : Worth Scanned)
    → Spaced K all x → Spaced K all y → x ≡ y
spaced-one K o all x y (bare b k) (bare c l) = o all x y k l
spaced-one K o _ x y (bare b k) (space h l) = cc
spaced-one K o _ x y (space {t = t} {given = all} h k) s = o all x y k ((behind-space K t h).onto all y s)

sized-one : (found : BySize) → ((order : Order) (v : ℤ) (all : List Given) (x y : Worth Scanned) → found order v all x → found order v all y → x ≡ y)
    → (n : Bool) (order : Order) (v : ℕ) (all : List Given) (x y : Worth Scanned) → Sized found n order v all x → Sized found n order v all y → x ≡ y
sized-one found f n order v all x y (small h k) s = f order (signed n (pos v)) all x y k ((sized-equal found n order v h).onto all y s)
sized-one found f n order v _ _ _ (large h) (large g) = refl
sized-one found f n order v _ _ y (large h) (small g k) = cc

font-one : (found : BySize) → ((order : Order) (v : ℤ) (all : List Given) (x y : Worth Scanned) → found order v all x → found order v all y → x ≡ y)
    → (n : Bool) (whole fraction : ℕ) (all : List Given) (x y : Worth Scanned) → FontSize found n whole fraction all x
    → FontSize found n whole fraction all y → x ≡ y
font-one found f n whole fraction _ x y (size {v = v} {given = all} k) s =
    spaced-one (Multiple found n whole fraction v) (sized-one found f (xor n (is_negative v)) Finite (times whole fraction (nat_abs v))) all x y k ((behind-size found n whole fraction v).onto all y s)

in-unit-one : (found : BySize)
    → ((order : Order) (v : ℤ) (all : List Given) (x y : Worth Scanned) → found order v all x → found order v all y → x ≡ y)
    → (n : Bool) (whole fraction : ℕ) (u : Unit_of) (all : List Given) (x y : Worth Scanned) → InUnit found n whole fraction u all x
    → InUnit found n whole fraction u all y → x ≡ y
in-unit-one found f n whole fraction (Physical a b) all x y r s =
    spaced-one _ (sized-one found f n Finite (a * (65536 * whole + fraction) / b)) all x y r s
in-unit-one found f n whole fraction Scaled all x y r s = spaced-one _ (sized-one found f n Finite whole) all x y r s
in-unit-one found f n whole fraction (OfFont asked) all x y r s = font-one found f n whole fraction all x y r s
in-unit-one found f n whole fraction (Infinite order) all x y r s = spaced-one _ (sized-one found f n order (65536 * whole + fraction)) all x y r s

letters-one : (K : Grammar) → ((all : List Given) (x y : Worth Scanned) → K all x → K all y → x ≡ y)
    → (word : List ℕ) (all : List Given) (x y : Worth Scanned) → Letters K word all x → Letters K word all y → x ≡ y
letters-one K o _ all x y (ended k) s = o all x y k ((none-left K).onto all y s)
letters-one K o _ _ x y (letter {c = c} {word = word} {t = t} {given = all} h l) s =
    letters-one K o word all x y l ((behind-letter K c word t h).onto all y s)

keyword-one : (K : Grammar) → ((all : List Given) (x y : Worth Scanned) → K all x → K all y → x ≡ y)
    → (word : List ℕ) (all : List Given) (x y : Worth Scanned) → Keyword K word all x → Keyword K word all y → x ≡ y
keyword-one K o word _ x y (key_blank {t = t} {given = all} h k) s = keyword-one K o word all x y k ((behind-blank K word t h).onto all y s)
keyword-one K o word all x y (key_letters b l) (key_letters c m) = letters-one K o word all x y l m
keyword-one K o word _ x y (key_letters b l) (key_blank h k) = cc

both : (a b : Bool) → (a && b) ≡ true → (a ≡ true) × (b ≡ true)
both true true e = (e, e)
both true false e = cc
both false b e = cc

one-of-one : (K : Unit_of → List Given → Worth Scanned → Type 0)
    → ((u : Unit_of) (all : List Given) (x y : Worth Scanned) → K u all x → K u all y → x ≡ y) → (t : List (List ℕ × Unit_of)) → all_apart t ≡ true
    → (all : List Given) (x y : Worth Scanned) → OneOf K t all x → OneOf K t all y → x ≡ y
one-of-one K o (u ∷ t) a all x y (here l) (here m) = letters-one (K u.1) (o u.1) u.0 all x y l m
one-of-one K o (u ∷ t) a all x y (here l) (there m) =
    absurd (letters-differs (K u.1) u.0 all all [] [] x (table-differs K u.0 t all y (both (apart_from u.0 t) (all_apart t) a).0 m) l refl)
one-of-one K o (u ∷ t) a all x y (there l) (here m) =
    absurd (letters-differs (K u.1) u.0 all all [] [] y (table-differs K u.0 t all x (both (apart_from u.0 t) (all_apart t) a).0 l) m refl)
one-of-one K o (u ∷ t) a all x y (there l) (there m) = one-of-one K o t (both (apart_from u.0 t) (all_apart t) a).1 all x y l m
one-of-one K o [] a all x y l m = elim l [ ]

fils-one : (K : Order → List Given → Worth Scanned → Type 0)
    → ((order : Order) (all : List Given) (x y : Worth Scanned) → K order all x → K order all y → x ≡ y)
    → (order : Order) (all : List Given) (x y : Worth Scanned) → Fils K order all x → Fils K order all y → x ≡ y
fils-one K o _ all x y (fil b k) (fil c l) = o Fil all x y k l
fils-one K o _ _ x y (fil b k) (second h r) = cc
fils-one K o _ all x y (fill b k) (fill c l) = o Fill all x y k l
fils-one K o _ _ x y (fill b k) (third h r) = cc
fils-one K o _ all x y (filll k) s = o Filll all x y k ((three K).onto all y s)
fils-one K o _ _ x y (second {t = t} {given = all} h r) s = fils-one K o Fill all x y r ((behind-second K t h).onto all y s)
fils-one K o _ _ x y (third {t = t} {given = all} h r) s = fils-one K o Filll all x y r ((behind-third K t h).onto all y s)

glue-unit-one : (found : BySize)
    → ((order : Order) (v : ℤ) (all : List Given) (x y : Worth Scanned) → found order v all x → found order v all y → x ≡ y)
    → (n : Bool) (whole fraction : ℕ) (all : List Given) (x y : Worth Scanned) → GlueUnit found n whole fraction all x
    → GlueUnit found n whole fraction all y → x ≡ y
glue-unit-one found f n whole fraction all x y (infinite l) (infinite m) =
    letters-one (Fils (λ order. InUnit found n whole fraction (Infinite order)) Fil) (fils-one (λ order. InUnit found n whole fraction (Infinite order)) (λ order. in-unit-one found f n whole fraction (Infinite order)) Fil) (codes "fil") all x y l m
glue-unit-one found f n whole fraction all x y (infinite l) (finite m) =
    absurd (letters-differs (Fils (λ order. InUnit found n whole fraction (Infinite order)) Fil) (codes "fil") all all [] [] x (table-differs (InUnit found n whole fraction) (codes "fil") units all y refl m) l refl)
glue-unit-one found f n whole fraction all x y (finite l) (infinite m) =
    absurd (letters-differs (Fils (λ order. InUnit found n whole fraction (Infinite order)) Fil) (codes "fil") all all [] [] y (table-differs (InUnit found n whole fraction) (codes "fil") units all x refl l) m refl)
glue-unit-one found f n whole fraction all x y (finite l) (finite m) =
    one-of-one (InUnit found n whole fraction) (in-unit-one found f n whole fraction) units refl all x y l m

unit-one : (table : ByDecimal)
    → ((n : Bool) (whole fraction : ℕ) (all : List Given) (x y : Worth Scanned) → table n whole fraction all x → table n whole fraction all y → x ≡ y)
    → (found : BySize) → ((order : Order) (v : ℤ) (all : List Given) (x y : Worth Scanned) → found order v all x → found order v all y → x ≡ y)
    → (n : Bool) (whole fraction : ℕ) (all : List Given) (x y : Worth Scanned) → UnitOf table found n whole fraction all x
    → UnitOf table found n whole fraction all y → x ≡ y
unit-one table k found f n whole fraction _ x y (unit_blank {t = t} {given = all} h r) s =
    unit-one table k found f n whole fraction all x y r ((unit-space table found n whole fraction t h).onto all y s)
unit-one table k found f n whole fraction _ x y (unit_internal {t = t} h (dimen {v = v} {given = all} r)) s =
    sized-one found f (xor n (is_negative v)) Finite (times whole fraction (nat_abs v)) all x y r
    ((behind-dimen found n whole fraction v).onto all y ((unit-command table found n whole fraction t h).onto (AQuantity (quantity.Dimen v) ∷ all) y s))
unit-one table k found f n whole fraction _ x y (unit_letters {t = t} {given = all} h o) (unit_letters g p) =
    k n whole fraction (AToken t ∷ all) x y o p
unit-one table k found f n whole fraction _ x y (unit_letters h o) (unit_blank g r) = let q : true ≡ false = sym h ∙ ap begins_unit g in cc
unit-one table k found f n whole fraction _ x y (unit_letters h o) (unit_internal g r) = let q : true ≡ false = sym h ∙ ap begins_unit g in cc

fraction-one : (table : ByDecimal)
    → ((n : Bool) (whole fraction : ℕ) (all : List Given) (x y : Worth Scanned) → table n whole fraction all x → table n whole fraction all y → x ≡ y)
    → (found : BySize) → ((order : Order) (v : ℤ) (all : List Given) (x y : Worth Scanned) → found order v all x → found order v all y → x ≡ y)
    → (n : Bool) (whole : ℕ) (ds : List ℕ) (all : List Given) (x y : Worth Scanned) → Fraction table found n whole ds all x
    → Fraction table found n whole ds all y → x ≡ y
fraction-one table k found f n whole ds _ x y (fraction_digit {d = d} {t = t} {given = all} h r) s =
    fraction-one table k found f n whole (ds ++ d ∷ []) all x y r ((behind-fraction table found n whole ds t d h).onto all y s)
fraction-one table k found f n whole ds all x y (fraction_unit b r) (fraction_unit c s) =
    unit-one table k found f n whole (fraction_from_digits (take 17 ds)) all x y r s
fraction-one table k found f n whole ds _ x y (fraction_unit b r) (fraction_digit h s) =
    let q : true ≡ false = sym (ap (λ (o : Option ℕ). if_digit o (λ z. true) false) h) ∙ b in cc

point-one : (table : ByDecimal)
    → ((n : Bool) (whole fraction : ℕ) (all : List Given) (x y : Worth Scanned) → table n whole fraction all x → table n whole fraction all y → x ≡ y)
    → (found : BySize) → ((order : Order) (v : ℤ) (all : List Given) (x y : Worth Scanned) → found order v all x → found order v all y → x ≡ y)
    → (n : Bool) (whole : ℕ) (all : List Given) (x y : Worth Scanned) → PointOrUnit table found n whole all x → PointOrUnit table found n whole all y
    → x ≡ y
point-one table k found f n whole _ x y (a_point {t = t} {given = all} h r) s =
    fraction-one table k found f n whole [] all x y r ((behind-point table found n whole t h).onto all y s)
point-one table k found f n whole _ x y (no_point {t = t} {given = all} h r) (no_point g s) =
    unit-one table k found f n whole 0 (AToken t ∷ all) x y r s
point-one table k found f n whole _ x y (no_point h r) (a_point g s) = cc

whole-one : (table : ByDecimal)
    → ((n : Bool) (whole fraction : ℕ) (all : List Given) (x y : Worth Scanned) → table n whole fraction all x → table n whole fraction all y → x ≡ y)
    → (found : BySize) → ((order : Order) (v : ℤ) (all : List Given) (x y : Worth Scanned) → found order v all x → found order v all y → x ≡ y)
    → (n : Bool) (whole : ℕ) (all : List Given) (x y : Worth Scanned) → BehindWhole table found n whole all x → BehindWhole table found n whole all y
    → x ≡ y
whole-one table k found f n whole all x y (whole_small h d r) s =
    point-one table k found f n whole all x y r (whole-onto table found n whole h all y s)
whole-one table k found f n whole _ _ _ (whole_large h) (whole_large g) = refl
whole-one table k found f n whole _ _ y (whole_large h) (whole_small g d r) = cc

digits-one : (table : ByDecimal)
    → ((n : Bool) (whole fraction : ℕ) (all : List Given) (x y : Worth Scanned) → table n whole fraction all x → table n whole fraction all y → x ≡ y)
    → (found : BySize) → ((order : Order) (v : ℤ) (all : List Given) (x y : Worth Scanned) → found order v all x → found order v all y → x ≡ y)
    → (n : Bool) (v : ℕ) (all : List Given) (x y : Worth Scanned) → Digits 10 (BehindWhole table found n) v all x
    → Digits 10 (BehindWhole table found n) v all y → x ≡ y
digits-one table k found f n v all x y (last r) (last s) = whole-one table k found f n v all x y r s
digits-one table k found f n v _ x y (last (whole_small a b r)) (digit h s) =
    let q : true ≡ false = sym (ap (λ (o : Option ℕ). if_digit o (λ z. true) false) h) ∙ b in cc
digits-one table k found f n v _ x y (digit {d = d} {t = t} {given = all} h r) s =
    digits-one table k found f n (10 * v + d) all x y r ((behind-digit table found n v d t h).onto all y s)

-- a list is one dimension at most, where it is one unit, and one of what may stand behind it
pub length-one : (table : ByDecimal)
    → ((n : Bool) (whole fraction : ℕ) (all : List Given) (x y : Worth Scanned) → table n whole fraction all x → table n whole fraction all y → x ≡ y)
    → (found : BySize) → ((order : Order) (v : ℤ) (all : List Given) (x y : Worth Scanned) → found order v all x → found order v all y → x ≡ y)
    → (alone : ByQuantity) → ((n : Bool) (q : Quantity) (all : List Given) (x y : Worth Scanned) → alone n q all x → alone n q all y → x ≡ y)
    → (n : Bool) (all : List Given) (x y : Worth Scanned) → IsLength table found alone n all x → IsLength table found alone n all y → x ≡ y
length-one table k found f alone a n _ x y (blank {t = t} {given = all} h r) s =
    length-one table k found f alone a n all x y r (after-of table found alone Space n t h all y s)
length-one table k found f alone a n _ x y (plus {t = t} {given = all} h r) s =
    length-one table k found f alone a n all x y r (after-of table found alone Plus n t h all y s)
length-one table k found f alone a n _ x y (minus {t = t} {given = all} h r) s =
    length-one table k found f alone a (not n) all x y r (after-of table found alone Minus n t h all y s)
length-one table k found f alone a n _ x y (decimal {d = d} {t = t} {given = all} h r) s =
    digits-one table k found f n d all x y r (after-of table found alone (Digit d) n t h all y s)
length-one table k found f alone a n _ x y (point_first {t = t} {given = all} h r) s =
    fraction-one table k found f n 0 [] all x y r (after-of table found alone Point n t h all y s)
length-one table k found f alone a n _ x y (an_internal {t = t} h (by_itself {q = q} {given = all} r)) s =
    a n q all x y r ((behind-quantity alone n q).onto all y (after-of table found alone Command n t h (AQuantity q ∷ all) y s))

nothing-one : (z : Worth Scanned) (all : List Given) (x y : Worth Scanned) → Nothing z all x → Nothing z all y → x ≡ y
nothing-one z _ _ _ nothing_more nothing_more = refl

pub dimension-one : (all : List Given) (x y : Worth Scanned) → IsDimension all x → IsDimension all y → x ≡ y
dimension-one = length-one (λ n whole fraction. OneOf (InUnit found_alone n whole fraction) units)
    (λ n whole fraction. one-of-one (InUnit found_alone n whole fraction) (in-unit-one found_alone (λ order v. nothing-one (Value (scanned.Dimen v))) n whole fraction) units refl)
    found_alone (λ order v. nothing-one (Value (scanned.Dimen v))) dimen_alone alone_one false where
      alone_one : (n : Bool) (q : Quantity) (all : List Given) (x y : Worth Scanned) → dimen_alone n q all x → dimen_alone n q all y → x ≡ y
      alone_one n (quantity.Dimen v) all x y r s = nothing-one (Value (scanned.Dimen (signed n v))) all x y r s
      alone_one n quantity.NotOne all x y r s = absurd r
      alone_one n (quantity.Number v) all x y r s = absurd r
      alone_one n (quantity.Skip v) all x y r s = absurd r

shrink-one : (g : Glue) (all : List Given) (x y : Worth Scanned) → Shrink g all x → Shrink g all y → x ≡ y
shrink-one g _ _ _ no_shrink no_shrink = refl
shrink-one g _ _ y no_shrink (shrinks (key_letters b l)) = elim l [ ]
shrink-one g _ x _ (shrinks (key_letters b l)) no_shrink = elim l [ ]
shrink-one g all x y (shrinks k) (shrinks l) =
    keyword-one (IsLength (GlueUnit (shrink_found g)) (shrink_found g) (shrink_by g) false)
    (length-one (GlueUnit (shrink_found g)) (glue-unit-one (shrink_found g) (λ order v. nothing-one (Value (scanned.Skip (shrunk g order v))))) (shrink_found g)
    (λ order v. nothing-one (Value (scanned.Skip (shrunk g order v)))) (shrink_by g) by_one false)
    (codes "minus") all x y k l where
      by_one : (n : Bool) (q : Quantity) (all : List Given) (x y : Worth Scanned) → shrink_by g n q all x → shrink_by g n q all y → x ≡ y
      by_one n (quantity.Dimen v) all x y r s = nothing-one (Value (scanned.Skip (shrunk g Finite (signed n v)))) all x y r s
      by_one n quantity.NotOne all x y r s = absurd r
      by_one n (quantity.Number v) all x y r s = absurd r
      by_one n (quantity.Skip v) all x y r s = absurd r

-- a list in which another keyword stands is none of the first one
other-word : (K L : Grammar) (c : ℕ) (word : List ℕ) (d : ℕ) (other : List ℕ) (all : List Given) (x y : Worth Scanned)
    → apart (c ∷ word) (d ∷ other) ≡ true
    → Keyword K (c ∷ word) all x → Keyword L (d ∷ other) all y → ⊥
other-word K L c word d other _ x y a (key_blank {t = t} {given = all} h k) s =
    other-word K L c word d other all x y a k ((behind-blank L (d ∷ other) t h).onto all y s)
other-word K L c word d other _ x y a (key_letters b l) (key_blank h k) = cc
other-word K L c word d other all x y a (key_letters b l) (key_letters e m) =
    letters-differs K (c ∷ word) all all [] [] x (apart-differs L (c ∷ word) (d ∷ other) all y a m) l refl

stretch-one : (g : Glue) (all : List Given) (x y : Worth Scanned) → Stretch g all x → Stretch g all y → x ≡ y
stretch-one g all x y (no_stretch r) (no_stretch s) = shrink-one g all x y r s
stretch-one g _ _ y (no_stretch no_shrink) (stretches (key_letters b l)) = elim l [ ]
stretch-one g _ x _ (stretches (key_letters b l)) (no_stretch no_shrink) = elim l [ ]
stretch-one g all x y (no_stretch (shrinks k)) (stretches l) =
    absurd (other-word (IsLength (GlueUnit (shrink_found g)) (shrink_found g) (shrink_by g) false) (IsLength (GlueUnit (stretch_found g)) (stretch_found g) (stretch_by g) false) 109 (codes "inus") 112 (codes "lus") all x y refl k l)
stretch-one g all x y (stretches k) (no_stretch (shrinks l)) =
    absurd (other-word (IsLength (GlueUnit (shrink_found g)) (shrink_found g) (shrink_by g) false) (IsLength (GlueUnit (stretch_found g)) (stretch_found g) (stretch_by g) false) 109 (codes "inus") 112 (codes "lus") all y x refl l k)
stretch-one g all x y (stretches k) (stretches l) =
    keyword-one (IsLength (GlueUnit (stretch_found g)) (stretch_found g) (stretch_by g) false)
    (length-one (GlueUnit (stretch_found g)) (glue-unit-one (stretch_found g) (λ order v. shrink-one (stretched g order v))) (stretch_found g)
    (λ order v. shrink-one (stretched g order v)) (stretch_by g) by_one false)
    (codes "plus") all x y k l where
      by_one : (n : Bool) (q : Quantity) (all : List Given) (x y : Worth Scanned) → stretch_by g n q all x → stretch_by g n q all y → x ≡ y
      by_one n (quantity.Dimen v) all x y r s = shrink-one (stretched g Finite (signed n v)) all x y r s
      by_one n quantity.NotOne all x y r s = absurd r
      by_one n (quantity.Number v) all x y r s = absurd r
      by_one n (quantity.Skip v) all x y r s = absurd r

pub glue-one : (all : List Given) (x y : Worth Scanned) → IsGlue all x → IsGlue all y → x ≡ y
glue-one = length-one (λ n whole fraction. OneOf (InUnit glue_found n whole fraction) units)
    (λ n whole fraction. one-of-one (InUnit glue_found n whole fraction) (in-unit-one glue_found (λ order v. stretch-one (of_width v)) n whole fraction) units refl)
    glue_found (λ order v. stretch-one (of_width v)) glue_by by_one false where
      by_one : (n : Bool) (q : Quantity) (all : List Given) (x y : Worth Scanned) → glue_by n q all x → glue_by n q all y → x ≡ y
      by_one n (quantity.Dimen v) all x y r s = stretch-one (of_width (signed n v)) all x y r s
      by_one n (quantity.Skip g) all x y r s = nothing-one (Value (scanned.Skip (signed_glue n g))) all x y r s
      by_one n quantity.NotOne all x y r s = absurd r
      by_one n (quantity.Number v) all x y r s = absurd r
