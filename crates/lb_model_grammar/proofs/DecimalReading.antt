-- What is read of a decimal and its unit, and of a dimension as a whole.
use Rattle.std.proofs.Common.{◌≡◌, ◌∙◌, ◌++◌, ◌+◌, ◌*◌, ◌≤◌, Bool, true, false, not, ℕ, pos, nat_lt, List, [], ◌∷◌, length, Some, None, refl, ap, sym, subst, arith, inl, inr, take}
use Rattle.std.specs.Prelude.{Option, if◌then◌else◌}
use Rattle.std.proofs.lemmas.Bool.{le-ltb, ltb-false}
use Rattle.lb_base.specs.Decimals.{fraction_from_digits}
use Rattle.lb_base.specs.declared.fault.Kind.TheVariants.{NumberTooBig, UnitMissing}
use Rattle.lb_base.specs.declared.token.Category.TheVariants as category
use Rattle.lb_base.specs.declared.token.Tok.{Tok}
use Rattle.lb_base.specs.declared.token.Tok.TheVariants.{Char}
use Rattle.lb_model_grammar.specs.declared.class.Class.{Class}
use Rattle.lb_model_grammar.specs.declared.class.Class.TheVariants.{Space, Plus, Minus, Digit, Octal, Hexadecimal, Quote, Point, Command, Other}
use Rattle.lb_model_grammar.specs.declared.given.Given.{Given}
use Rattle.lb_model_grammar.specs.declared.given.Given.TheVariants.{Tok as AToken, Quantity as AQuantity, End}
use Rattle.lb_model_grammar.specs.declared.given.Quantity.{Quantity}
use Rattle.lb_model_grammar.specs.declared.given.Quantity.TheVariants as quantity
use Rattle.lb_model_grammar.specs.declared.given.Scanned.{Scanned}
use Rattle.lb_model_grammar.specs.declared.given.Want.TheVariants as want
use Rattle.lb_model_grammar.specs.Dimensions.{Uses, behind_whole, fraction, in_unit, internal, internal_unit, length_as, length_behind, point_or_unit, unit, unit_as}
use Rattle.lb_model_grammar.specs.LengthGrammar.{Alone, BehindWhole, ByDecimal, ByQuantity, BySize, Fraction, InternalUnit, IsLength, PointOrUnit, UnitOf, begins_digit, begins_unit}
use Rattle.lb_model_grammar.specs.LengthGrammar.Alone.{by_itself}
use Rattle.lb_model_grammar.specs.LengthGrammar.BehindWhole.{large as whole_large, small as whole_small}
use Rattle.lb_model_grammar.specs.LengthGrammar.Fraction.{digit as fraction_digit, unit as fraction_unit}
use Rattle.lb_model_grammar.specs.LengthGrammar.IsLength.{blank, decimal, fraction as point_first, internal as an_internal, minus, plus}
use Rattle.lb_model_grammar.specs.LengthGrammar.PointOrUnit.{point as a_point, unit as no_point}
use Rattle.lb_model_grammar.specs.LengthGrammar.UnitOf.{blank as unit_blank, internal as unit_internal, letters as unit_letters}
use Rattle.lb_model_grammar.specs.NumberGrammar.{Digits}
use Rattle.lb_model_grammar.specs.NumberGrammar.Digits.{digit, last}
use Rattle.lb_model_grammar.specs.Scans.{class_of, digit_of, digits, grown, if_digit, is_other, one_of}
use Rattle.lb_model_grammar.specs.Scans.Meant.{Wrong}
use Rattle.lb_model_grammar.specs.Written.{GoesOn, ReadsOr, Worth}
use Rattle.lb_model_grammar.specs.Written.Answers.{expanded, quantity as a_quantity}
use Rattle.lb_model_grammar.specs.Written.ReadsOr.{none, reads}
use Rattle.lb_model_grammar.specs.Written.Worth.{TooLarge}
use Rattle.lb_model_grammar.proofs.LengthReading.{Behind, Lacks, internal-unit-reads}
use Rattle.lb_model_grammar.proofs.NumberReading.{Alike, grown-alike}
use Rattle.lb_model_grammar.proofs.NumberReading.Alike.{large as alike_large, same as alike_same}
use Rattle.lb_model_grammar.proofs.ReadingSteps.{Has, Same, Step, among-same, nothing-begins, reads-or-among, reads-or-as, reads-or-behind, reads-or-behind-full}

-- ---- The unit behind a decimal

unit-not-empty : (table : ByDecimal) (found : BySize) (n : Bool) (whole fraction : ℕ) (w : Worth Scanned)
    → UnitOf table found n whole fraction [] w → ⊥
unit-not-empty table found n whole fraction w r = elim r [ ]

pub unit-space : (table : ByDecimal) (found : BySize) (n : Bool) (whole fraction : ℕ) (t : Tok) → class_of t ≡ Space
    → Step (UnitOf table found n whole fraction) (UnitOf table found n whole fraction) (AToken t)
unit-space table found n whole fraction t e = record { into = λ all w r. unit_blank e r; onto = onto } where
  onto : (all : List Given) (w : Worth Scanned) → UnitOf table found n whole fraction (AToken t ∷ all) w → UnitOf table found n whole fraction all w
  onto all w (unit_blank h r) = r
  onto all w (unit_internal h r) = cc
  onto all w (unit_letters h o) = let q : true ≡ false = sym h ∙ ap begins_unit e in cc

pub unit-command : (table : ByDecimal) (found : BySize) (n : Bool) (whole fraction : ℕ) (t : Tok) → class_of t ≡ Command
    → Step (UnitOf table found n whole fraction) (InternalUnit found n whole fraction) (AToken t)
unit-command table found n whole fraction t e = record { into = λ all w r. unit_internal e r; onto = onto } where
  onto : (all : List Given) (w : Worth Scanned) → UnitOf table found n whole fraction (AToken t ∷ all) w → InternalUnit found n whole fraction all w
  onto all w (unit_blank h r) = cc
  onto all w (unit_internal h r) = r
  onto all w (unit_letters h o) = let q : true ≡ false = sym h ∙ ap begins_unit e in cc

unit-word : (table : ByDecimal) (found : BySize) (n : Bool) (whole fraction : ℕ) (t : Tok) → begins_unit (class_of t) ≡ true
    → ((w : Worth Scanned) → table n whole fraction [] w → ⊥)
    → Same (UnitOf table found n whole fraction) (table n whole fraction) (AToken t)
unit-word table found n whole fraction t e filled =
    record { empty = λ w o. absurd (filled w o); into = λ all w o. unit_letters e o; onto = onto } where
      onto : (all : List Given) (w : Worth Scanned) → UnitOf table found n whole fraction (AToken t ∷ all) w → table n whole fraction (AToken t ∷ all) w
      onto all w (unit_blank h r) = let q : true ≡ false = sym e ∙ ap begins_unit h in cc
      onto all w (unit_internal h r) = let q : true ≡ false = sym e ∙ ap begins_unit h in cc
      onto all w (unit_letters h o) = o

word-unit : (u : Uses) (table : ByDecimal) (found : BySize) (alone : ByQuantity) → Behind u table found alone
    → (n : Bool) (whole fraction : ℕ) (t : Tok) (given : List Given) → begins_unit (class_of t) ≡ true
    → ReadsOr (Lacks u) (UnitOf table found n whole fraction) (AToken t ∷ given) (one_of u.units (in_unit u n whole fraction) (u.missing UnitMissing) (AToken t ∷ given))
word-unit u table found alone b n whole fraction t given e =
    reads-or-as (unit-word table found n whole fraction t e (b.units_filled n whole fraction)) (unit-not-empty table found n whole fraction) given
    (one_of u.units (in_unit u n whole fraction) (u.missing UnitMissing) (AToken t ∷ given)) (b.units_read n whole fraction (AToken t ∷ given))

unit-at : (u : Uses) (table : ByDecimal) (found : BySize) (alone : ByQuantity) → Behind u table found alone
    → (n : Bool) (whole fraction : ℕ) (t : Tok) (given : List Given)
    → ReadsOr (Lacks u) (UnitOf table found n whole fraction) given (unit u n whole fraction given)
    → (k : Class) → class_of t ≡ k
    → ReadsOr (Lacks u) (UnitOf table found n whole fraction) (AToken t ∷ given) (unit_as k u n whole fraction t (unit u n whole fraction given) given)
unit-at u table found alone b n whole fraction t given ih Space e =
    reads-or-behind (unit-space table found n whole fraction t e) (unit-not-empty table found n whole fraction) given (unit u n whole fraction given) ih
unit-at u table found alone b n whole fraction t given ih Command e =
    reads-or-behind (unit-command table found n whole fraction t e) (unit-not-empty table found n whole fraction) given (internal_unit u n whole fraction given)
    (internal-unit-reads u found b.found_has b.found_reads n whole fraction given)
unit-at u table found alone b n whole fraction t given ih Plus e = word-unit u table found alone b n whole fraction t given (ap begins_unit e)
unit-at u table found alone b n whole fraction t given ih Minus e = word-unit u table found alone b n whole fraction t given (ap begins_unit e)
unit-at u table found alone b n whole fraction t given ih (Digit d) e = word-unit u table found alone b n whole fraction t given (ap begins_unit e)
unit-at u table found alone b n whole fraction t given ih Octal e = word-unit u table found alone b n whole fraction t given (ap begins_unit e)
unit-at u table found alone b n whole fraction t given ih Hexadecimal e = word-unit u table found alone b n whole fraction t given (ap begins_unit e)
unit-at u table found alone b n whole fraction t given ih Quote e = word-unit u table found alone b n whole fraction t given (ap begins_unit e)
unit-at u table found alone b n whole fraction t given ih Point e = word-unit u table found alone b n whole fraction t given (ap begins_unit e)
unit-at u table found alone b n whole fraction t given ih Other e = word-unit u table found alone b n whole fraction t given (ap begins_unit e)

unit-reads : (u : Uses) (table : ByDecimal) (found : BySize) (alone : ByQuantity) → Behind u table found alone
    → (n : Bool) (whole fraction : ℕ) (given : List Given)
    → ReadsOr (Lacks u) (UnitOf table found n whole fraction) given (unit u n whole fraction given)
unit-reads u table found alone b n whole fraction [] =
    let h = b.unit_rest n whole fraction in
    reads (record { next = AToken (Char category.Letter 112); answers = expanded; more = h.some; worth = h.worth; is = unit_letters refl h.is })
unit-reads u table found alone b n whole fraction (AToken t ∷ given) =
    unit-at u table found alone b n whole fraction t given (unit-reads u table found alone b n whole fraction given) (class_of t) refl
unit-reads u table found alone b n whole fraction (AQuantity q ∷ given) =
    none (inr refl) (nothing-begins (UnitOf table found n whole fraction) (AQuantity q) given (unit-not-empty table found n whole fraction) (λ all w r. elim r [ ]))
unit-reads u table found alone b n whole fraction (End ∷ given) =
    none (inr refl) (nothing-begins (UnitOf table found n whole fraction) End given (unit-not-empty table found n whole fraction) (λ all w r. elim r [ ]))

-- ---- Digits behind a point

fraction-not-empty : (table : ByDecimal) (found : BySize) (n : Bool) (whole : ℕ) (ds : List ℕ) (w : Worth Scanned)
    → Fraction table found n whole ds [] w → ⊥
fraction-not-empty table found n whole ds w (fraction_unit h r) = elim r [ ]

pub behind-fraction : (table : ByDecimal) (found : BySize) (n : Bool) (whole : ℕ) (ds : List ℕ) (t : Tok) (d : ℕ) → digit_of 10 t ≡ Some d
    → Step (Fraction table found n whole ds) (Fraction table found n whole (ds ++ d ∷ [])) (AToken t)
behind-fraction table found n whole ds t d e = record { into = λ all w r. fraction_digit e r; onto = onto } where
  onto : (all : List Given) (w : Worth Scanned) → Fraction table found n whole ds (AToken t ∷ all) w
      → Fraction table found n whole (ds ++ d ∷ []) all w
  onto all w (fraction_digit {d = c} h r) = let q : c ≡ d = cc in subst (λ (x : ℕ). Fraction table found n whole (ds ++ x ∷ []) all w) q r
  onto all w (fraction_unit h r) = let q : true ≡ false = sym (ap (λ (o : Option ℕ). if_digit o (λ x. true) false) e) ∙ h in cc

no-fraction-digit : (table : ByDecimal) (found : BySize) (n : Bool) (whole : ℕ) (ds : List ℕ) (t : Tok) → digit_of 10 t ≡ None
    → Same (Fraction table found n whole ds) (UnitOf table found n whole (fraction_from_digits (take 17 ds))) (AToken t)
no-fraction-digit table found n whole ds t e =
    record { empty = λ w r. fraction_unit refl r; into = λ all w r. fraction_unit (ap (λ (o : Option ℕ). if_digit o (λ x. true) false) e) r; onto = onto } where
      onto : (all : List Given) (w : Worth Scanned) → Fraction table found n whole ds (AToken t ∷ all) w
          → UnitOf table found n whole (fraction_from_digits (take 17 ds)) (AToken t ∷ all) w
      onto all w (fraction_digit h r) = cc
      onto all w (fraction_unit h r) = r

fraction-at : (u : Uses) (table : ByDecimal) (found : BySize) (alone : ByQuantity) → Behind u table found alone
    → (n : Bool) (whole : ℕ) (ds : List ℕ) (t : Tok) (given : List Given)
    → ((es : List ℕ) → ReadsOr (Lacks u) (Fraction table found n whole es) given (fraction u n whole es given)) → (o : Option ℕ) → digit_of 10 t ≡ o
    → ReadsOr (Lacks u) (Fraction table found n whole ds) (AToken t ∷ given)
    (if_digit o (λ d. fraction u n whole (ds ++ d ∷ []) given) (unit u n whole (fraction_from_digits (take 17 ds)) (AToken t ∷ given)))
fraction-at u table found alone b n whole ds t given ih (Some d) e =
    reads-or-behind (behind-fraction table found n whole ds t d e) (fraction-not-empty table found n whole ds) given (fraction u n whole (ds ++ d ∷ []) given) (ih (ds ++ d ∷ []))
fraction-at u table found alone b n whole ds t given ih None e =
    reads-or-as (no-fraction-digit table found n whole ds t e) (fraction-not-empty table found n whole ds) given
    (unit u n whole (fraction_from_digits (take 17 ds)) (AToken t ∷ given)) (unit-reads u table found alone b n whole (fraction_from_digits (take 17 ds)) (AToken t ∷ given))

fraction-reads : (u : Uses) (table : ByDecimal) (found : BySize) (alone : ByQuantity) → Behind u table found alone
    → (n : Bool) (whole : ℕ) (ds : List ℕ) (given : List Given)
    → ReadsOr (Lacks u) (Fraction table found n whole ds) given (fraction u n whole ds given)
fraction-reads u table found alone b n whole ds [] =
    let h = b.unit_rest n whole (fraction_from_digits (take 17 ds)) in
    reads (record { next = AToken (Char category.Letter 112); answers = expanded; more = h.some; worth = h.worth; is = fraction_unit refl (unit_letters refl h.is) })
fraction-reads u table found alone b n whole ds (AToken t ∷ given) =
    fraction-at u table found alone b n whole ds t given (λ es. fraction-reads u table found alone b n whole es given) (digit_of 10 t) refl
fraction-reads u table found alone b n whole ds (AQuantity q ∷ given) =
    none (inr refl) (nothing-begins (Fraction table found n whole ds) (AQuantity q) given (fraction-not-empty table found n whole ds) (λ all w r. elim r [ fraction_unit h s ↦ elim s [ ] ]))
fraction-reads u table found alone b n whole ds (End ∷ given) =
    none (inr refl) (nothing-begins (Fraction table found n whole ds) End given (fraction-not-empty table found n whole ds) (λ all w r. elim r [ fraction_unit h s ↦ elim s [ ] ]))

-- ---- Behind the whole part

point-not-empty : (table : ByDecimal) (found : BySize) (n : Bool) (whole : ℕ) (w : Worth Scanned)
    → PointOrUnit table found n whole [] w → ⊥
point-not-empty table found n whole w r = elim r [ ]

pub behind-point : (table : ByDecimal) (found : BySize) (n : Bool) (whole : ℕ) (t : Tok) → is_other 46 t ≡ true
    → Step (PointOrUnit table found n whole) (Fraction table found n whole []) (AToken t)
behind-point table found n whole t e = record { into = λ all w r. a_point e r; onto = onto } where
  onto : (all : List Given) (w : Worth Scanned) → PointOrUnit table found n whole (AToken t ∷ all) w → Fraction table found n whole [] all w
  onto all w (a_point h r) = r
  onto all w (no_point h r) = cc

without-point : (table : ByDecimal) (found : BySize) (n : Bool) (whole : ℕ) (t : Tok) → is_other 46 t ≡ false
    → Same (PointOrUnit table found n whole) (UnitOf table found n whole 0) (AToken t)
without-point table found n whole t e =
    record { empty = λ w r. absurd (unit-not-empty table found n whole 0 w r); into = λ all w r. no_point e r; onto = onto } where
      onto : (all : List Given) (w : Worth Scanned) → PointOrUnit table found n whole (AToken t ∷ all) w → UnitOf table found n whole 0 (AToken t ∷ all) w
      onto all w (a_point h r) = cc
      onto all w (no_point h r) = r

point-at : (u : Uses) (table : ByDecimal) (found : BySize) (alone : ByQuantity) → Behind u table found alone
    → (n : Bool) (whole : ℕ) (t : Tok) (given : List Given) (p : Bool) → is_other 46 t ≡ p
    → ReadsOr (Lacks u) (PointOrUnit table found n whole) (AToken t ∷ given) (if p then fraction u n whole [] given else unit u n whole 0 (AToken t ∷ given))
point-at u table found alone b n whole t given true e =
    reads-or-behind (behind-point table found n whole t e) (point-not-empty table found n whole) given (fraction u n whole [] given) (fraction-reads u table found alone b n whole [] given)
point-at u table found alone b n whole t given false e =
    reads-or-as (without-point table found n whole t e) (point-not-empty table found n whole) given (unit u n whole 0 (AToken t ∷ given)) (unit-reads u table found alone b n whole 0 (AToken t ∷ given))

point-reads : (u : Uses) (table : ByDecimal) (found : BySize) (alone : ByQuantity) → Behind u table found alone
    → (n : Bool) (whole : ℕ) (g : Given) (given : List Given)
    → ReadsOr (Lacks u) (PointOrUnit table found n whole) (g ∷ given) (point_or_unit u n whole (g ∷ given))
point-reads u table found alone b n whole (AToken t) given = point-at u table found alone b n whole t given (is_other 46 t) refl
point-reads u table found alone b n whole (AQuantity q) given =
    none (inr refl) (nothing-begins (PointOrUnit table found n whole) (AQuantity q) given (point-not-empty table found n whole) (λ all w r. elim r [ ]))
point-reads u table found alone b n whole End given =
    none (inr refl) (nothing-begins (PointOrUnit table found n whole) End given (point-not-empty table found n whole) (λ all w r. elim r [ ]))

-- a decimal behind its whole part
pub whole-onto : (table : ByDecimal) (found : BySize) (n : Bool) (v : ℕ) → nat_lt v 2147483648 ≡ true
    → (all : List Given) (w : Worth Scanned) → BehindWhole table found n v all w → PointOrUnit table found n v all w
whole-onto table found n v e all w (whole_small h d r) = r
whole-onto table found n v e _ w (whole_large h) = cc

whole-same : (table : ByDecimal) (found : BySize) (n : Bool) (v : ℕ) (g : Given) → nat_lt v 2147483648 ≡ true
    → ((all : List Given) → begins_digit (g ∷ all) ≡ false) → Same (BehindWhole table found n v) (PointOrUnit table found n v) g
whole-same table found n v g e d =
    record { empty = λ w r. absurd (point-not-empty table found n v w r); into = λ all w r. whole_small e (d all) r; onto = λ all w r. whole-onto table found n v e (g ∷ all) w r }

whole-not-empty : (table : ByDecimal) (found : BySize) (n : Bool) (v : ℕ) → nat_lt v 2147483648 ≡ true
    → (w : Worth Scanned) → BehindWhole table found n v [] w → ⊥
whole-not-empty table found n v e w r = point-not-empty table found n v w (whole-onto table found n v e [] w r)

whole-short : (table : ByDecimal) (found : BySize) (n : Bool) (v : ℕ) → nat_lt v 2147483648 ≡ false
    → (all : List Given) (w : Worth Scanned) → BehindWhole table found n v all w → length all ≤ 0
whole-short table found n v e all w (whole_small h d r) = cc
whole-short table found n v e _ w (whole_large h) = omega arith

whole-by : (u : Uses) (table : ByDecimal) (found : BySize) (alone : ByQuantity) → Behind u table found alone
    → (n : Bool) (v : ℕ) (g : Given) (given : List Given) → ((all : List Given) → begins_digit (g ∷ all) ≡ false) → (s : Bool)
    → nat_lt v 2147483648 ≡ s
    → ReadsOr (Lacks u) (BehindWhole table found n v) (g ∷ given) (if s then point_or_unit u n v (g ∷ given) else Wrong NumberTooBig)
whole-by u table found alone b n v g given d true e =
    reads-or-as (whole-same table found n v g e d) (whole-not-empty table found n v e) given (point_or_unit u n v (g ∷ given)) (point-reads u table found alone b n v g given)
whole-by u table found alone b n v g given d false e = reads (record {
  rest = g ∷ given;
  is = record { read = []; parts = refl; is = whole_large e; longest = λ more all behind w q i. whole-short table found n v e all w i };
})

whole-by-large : (u : Uses) (table : ByDecimal) (found : BySize) (alone : ByQuantity) → Behind u table found alone
    → (n : Bool) (v w : ℕ) (g : Given) (given : List Given) → ((all : List Given) → begins_digit (g ∷ all) ≡ false) → nat_lt v 2147483648 ≡ false
    → ReadsOr (Lacks u) (BehindWhole table found n v) (g ∷ given) (Wrong NumberTooBig)
whole-by-large u table found alone b n v w g given d e = whole-by u table found alone b n v g given d false e

whole-reads : (u : Uses) (table : ByDecimal) (found : BySize) (alone : ByQuantity) → Behind u table found alone
    → (n : Bool) (v w : ℕ) → Alike v w → (g : Given) (given : List Given) → ((all : List Given) → begins_digit (g ∷ all) ≡ false)
    → ReadsOr (Lacks u) (BehindWhole table found n v) (g ∷ given) (behind_whole u n w (g ∷ given))
whole-reads u table found alone b n v w (alike_same e) g given d =
    subst (λ (x : ℕ). ReadsOr (Lacks u) (BehindWhole table found n v) (g ∷ given) (behind_whole u n x (g ∷ given))) e (whole-by u table found alone b n v g given d (nat_lt v 2147483648) refl)
whole-reads u table found alone b n v w (alike_large l h) g given d =
    subst (λ (s : Bool). ReadsOr (Lacks u) (BehindWhole table found n v) (g ∷ given) (if s then point_or_unit u n w (g ∷ given) else Wrong NumberTooBig))
    (sym (le-ltb w 2147483648 h)) (whole-by-large u table found alone b n v w g given d (le-ltb v 2147483648 l))

-- ---- The whole part

-- what a value that is too big has, greater ones have too
large-goes-on : (table : ByDecimal) (found : BySize) (n : Bool) (v x : ℕ) (w : Worth Scanned) → v ≤ x
    → BehindWhole table found n v [] w → BehindWhole table found n x [] (TooLarge NumberTooBig)
large-goes-on table found n v x w le (whole_small h d r) = absurd (point-not-empty table found n v w r)
large-goes-on table found n v x w le (whole_large h) =
    let l : 2147483648 ≤ v = ltb-false v 2147483648 h in
    whole_large (le-ltb x 2147483648 (omega (arith, l, le)))

pub behind-digit : (table : ByDecimal) (found : BySize) (n : Bool) (v d : ℕ) (t : Tok) → digit_of 10 t ≡ Some d
    → Step (Digits 10 (BehindWhole table found n) v) (Digits 10 (BehindWhole table found n) (10 * v + d)) (AToken t)
behind-digit table found n v d t e = record { into = λ all w r. digit e r; onto = onto } where
  onto : (all : List Given) (w : Worth Scanned) → Digits 10 (BehindWhole table found n) v (AToken t ∷ all) w
      → Digits 10 (BehindWhole table found n) (10 * v + d) all w
  onto all w (digit {d = c} h r) = let q : c ≡ d = cc in subst (λ (x : ℕ). Digits 10 (BehindWhole table found n) (10 * v + x) all w) q r
  onto all w (last (whole_small h f r)) = let q : true ≡ false = sym (ap (λ (o : Option ℕ). if_digit o (λ x. true) false) e) ∙ f in cc

no-digit : (table : ByDecimal) (found : BySize) (n : Bool) (v : ℕ) (t : Tok) → digit_of 10 t ≡ None
    → Same (Digits 10 (BehindWhole table found n) v) (BehindWhole table found n v) (AToken t)
no-digit table found n v t e = record { empty = λ w k. last k; into = λ all w k. last k; onto = onto } where
  onto : (all : List Given) (w : Worth Scanned) → Digits 10 (BehindWhole table found n) v (AToken t ∷ all) w
      → BehindWhole table found n v (AToken t ∷ all) w
  onto all w (digit h r) = cc
  onto all w (last k) = k

last-empty : (table : ByDecimal) (found : BySize) (n : Bool) (v : ℕ) (w : Worth Scanned)
    → Digits 10 (BehindWhole table found n) v [] w → BehindWhole table found n v [] w
last-empty table found n v w (last k) = k

digits-at : (u : Uses) (table : ByDecimal) (found : BySize) (alone : ByQuantity) → Behind u table found alone
    → (n : Bool) (v w : ℕ) → Alike v w → (t : Tok) (given : List Given)
    → ((x y : ℕ) → Alike x y → ReadsOr (Lacks u) (Digits 10 (BehindWhole table found n) x) given (digits 10 y (behind_whole u n) given))
    → (o : Option ℕ) → digit_of 10 t ≡ o
    → ReadsOr (Lacks u) (Digits 10 (BehindWhole table found n) v) (AToken t ∷ given)
    (if_digit o (λ d. digits 10 (grown 10 w d) (behind_whole u n) given) (behind_whole u n w (AToken t ∷ given)))
digits-at u table found alone b n v w a t given ih (Some d) e =
    reads-or-behind-full (behind-digit table found n v d t e) given
    (λ x r none. none [] [] (given ++ []) (TooLarge NumberTooBig) refl
    (last (large-goes-on table found n v (10 * v + d) x (omega arith) (last-empty table found n v x r))))
    (digits 10 (grown 10 w d) (behind_whole u n) given) (ih (10 * v + d) (grown 10 w d) (grown-alike 10 v w d (λ x. omega arith) a))
digits-at u table found alone b n v w a t given ih None e =
    reads-or-among (among-same (no-digit table found n v t e) (last-empty table found n v) given) (behind_whole u n w (AToken t ∷ given))
    (whole-reads u table found alone b n v w a (AToken t) given (λ all. ap (λ (o : Option ℕ). if_digit o (λ x. true) false) e))

digits-go-on : (u : Uses) (table : ByDecimal) (found : BySize) (alone : ByQuantity) → Behind u table found alone
    → (n : Bool) (v : ℕ) (s : Bool) → nat_lt v 2147483648 ≡ s → GoesOn (Digits 10 (BehindWhole table found n) v) [] want.Expanded
digits-go-on u table found alone b n v true e =
    let h = b.unit_rest n v 0 in
    record { next = AToken (Char category.Letter 112); answers = expanded; more = h.some; worth = h.worth; is = last (whole_small e refl (no_point refl (unit_letters refl h.is))) }
digits-go-on u table found alone b n v false e =
    record { next = AToken (Char category.Other 48); answers = expanded; more = []; worth = TooLarge NumberTooBig; is = digit {d = 0} refl (last (large-goes-on table found n v (10 * v + 0) (TooLarge NumberTooBig) (omega arith) (whole_large e))) }

digits-read : (u : Uses) (table : ByDecimal) (found : BySize) (alone : ByQuantity) → Behind u table found alone
    → (n : Bool) (v w : ℕ) → Alike v w → (given : List Given)
    → ReadsOr (Lacks u) (Digits 10 (BehindWhole table found n) v) given (digits 10 w (behind_whole u n) given)
digits-read u table found alone b n v w a [] = reads (digits-go-on u table found alone b n v (nat_lt v 2147483648) refl)
digits-read u table found alone b n v w a (AToken t ∷ given) =
    digits-at u table found alone b n v w a t given (λ x y c. digits-read u table found alone b n x y c given) (digit_of 10 t) refl
digits-read u table found alone b n v w a (AQuantity q ∷ given) =
    reads-or-among (among-same (record { empty = λ x k. last k; into = λ all x k. last k; onto = λ all x r. elim r [ last k ↦ k ] }) (last-empty table found n v) given)
    (behind_whole u n w (AQuantity q ∷ given)) (whole-reads u table found alone b n v w a (AQuantity q) given (λ all. refl))
digits-read u table found alone b n v w a (End ∷ given) =
    reads-or-among (among-same (record { empty = λ x k. last k; into = λ all x k. last k; onto = λ all x r. elim r [ last k ↦ k ] }) (last-empty table found n v) given)
    (behind_whole u n w (End ∷ given)) (whole-reads u table found alone b n v w a End given (λ all. refl))

-- ---- An internal quantity by itself

pub behind-quantity : (alone : ByQuantity) (n : Bool) (q : Quantity) → Step (Alone alone n) (alone n q) (AQuantity q)
behind-quantity alone n q = record { into = λ all w k. by_itself k; onto = λ all w r. elim r [ by_itself k ↦ k ] }

internal-reads : (u : Uses) (table : ByDecimal) (found : BySize) (alone : ByQuantity) → Behind u table found alone
    → (n : Bool) (given : List Given) → ReadsOr (Lacks u) (Alone alone n) given (internal u n given)
internal-reads u table found alone b n [] =
    let h = b.alone_has n in
    reads (record { next = AQuantity (quantity.Dimen (pos 0)); answers = a_quantity; more = h.some; worth = h.worth; is = by_itself h.is })
internal-reads u table found alone b n (AQuantity q ∷ given) =
    reads-or-behind (behind-quantity alone n q) (λ w r. elim r [ ]) given (u.alone n q given) (b.alone_reads n q given)
internal-reads u table found alone b n (AToken t ∷ given) =
    none (inl refl) (nothing-begins (Alone alone n) (AToken t) given (λ w r. elim r [ ]) (λ all w r. elim r [ ]))
internal-reads u table found alone b n (End ∷ given) =
    none (inl refl) (nothing-begins (Alone alone n) End given (λ w r. elim r [ ]) (λ all w r. elim r [ ]))

-- ---- A dimension

abbrev pub After : ByDecimal → BySize → ByQuantity → Class → Bool → List Given → Worth Scanned → Type 0
After table found alone Space n = IsLength table found alone n
After table found alone Plus n = IsLength table found alone n
After table found alone Minus n = IsLength table found alone (not n)
After table found alone (Digit d) n = Digits 10 (BehindWhole table found n) d
After table found alone Point n = Fraction table found n 0 []
After table found alone Command n = Alone alone n
After table found alone Octal n = λ all w. ⊥
After table found alone Hexadecimal n = λ all w. ⊥
After table found alone Quote n = λ all w. ⊥
After table found alone Other n = λ all w. ⊥

pub after-of : (table : ByDecimal) (found : BySize) (alone : ByQuantity) (k : Class) (n : Bool) (t : Tok)
    → class_of t ≡ k → (all : List Given) (w : Worth Scanned) → IsLength table found alone n (AToken t ∷ all) w → After table found alone k n all w
after-of table found alone k n t e all w (blank h r) = subst (λ (c : Class). After table found alone c n all w) (sym h ∙ e) r
after-of table found alone k n t e all w (plus h r) = subst (λ (c : Class). After table found alone c n all w) (sym h ∙ e) r
after-of table found alone k n t e all w (minus h r) = subst (λ (c : Class). After table found alone c n all w) (sym h ∙ e) r
after-of table found alone k n t e all w (decimal h r) = subst (λ (c : Class). After table found alone c n all w) (sym h ∙ e) r
after-of table found alone k n t e all w (point_first h r) = subst (λ (c : Class). After table found alone c n all w) (sym h ∙ e) r
after-of table found alone k n t e all w (an_internal h r) = subst (λ (c : Class). After table found alone c n all w) (sym h ∙ e) r

length-of : (table : ByDecimal) (found : BySize) (alone : ByQuantity) (k : Class) (n : Bool) (t : Tok)
    → class_of t ≡ k → (all : List Given) (w : Worth Scanned) → After table found alone k n all w → IsLength table found alone n (AToken t ∷ all) w
length-of table found alone Space n t e all w r = blank e r
length-of table found alone Plus n t e all w r = plus e r
length-of table found alone Minus n t e all w r = minus e r
length-of table found alone (Digit d) n t e all w r = decimal e r
length-of table found alone Point n t e all w r = point_first e r
length-of table found alone Command n t e all w r = an_internal e r
length-of table found alone Octal n t e all w r = absurd r
length-of table found alone Hexadecimal n t e all w r = absurd r
length-of table found alone Quote n t e all w r = absurd r
length-of table found alone Other n t e all w r = absurd r

pub length-not-empty : (table : ByDecimal) (found : BySize) (alone : ByQuantity) (n : Bool) (w : Worth Scanned)
    → IsLength table found alone n [] w → ⊥
length-not-empty table found alone n w r = elim r [ ]

class-reads : (u : Uses) (table : ByDecimal) (found : BySize) (alone : ByQuantity) → Behind u table found alone
    → (k : Class) (n : Bool) (given : List Given) → ((m : Bool) → ReadsOr (Lacks u) (IsLength table found alone m) given (length_behind u m given))
    → ReadsOr (Lacks u) (After table found alone k n) given (length_as k u n (λ m. length_behind u m given) given)
class-reads u table found alone b Space n given ih = ih n
class-reads u table found alone b Plus n given ih = ih n
class-reads u table found alone b Minus n given ih = ih (not n)
class-reads u table found alone b (Digit d) n given ih = digits-read u table found alone b n d d (alike_same refl) given
class-reads u table found alone b Point n given ih = fraction-reads u table found alone b n 0 [] given
class-reads u table found alone b Command n given ih = internal-reads u table found alone b n given
class-reads u table found alone b Octal n given ih = none (inl refl) (λ more all behind w e r. r)
class-reads u table found alone b Hexadecimal n given ih = none (inl refl) (λ more all behind w e r. r)
class-reads u table found alone b Quote n given ih = none (inl refl) (λ more all behind w e r. r)
class-reads u table found alone b Other n given ih = none (inl refl) (λ more all behind w e r. r)

pub length-reads : (u : Uses) (table : ByDecimal) (found : BySize) (alone : ByQuantity) → Behind u table found alone
    → (n : Bool) (given : List Given) → ReadsOr (Lacks u) (IsLength table found alone n) given (length_behind u n given)
length-reads u table found alone b n [] =
    let h = b.unit_rest n 0 0 in
    reads (record {
      next = AToken (Char category.Other 48);
      answers = expanded;
      more = AToken (Char category.Letter 112) ∷ h.some;
      worth = h.worth;
      is = decimal {d = 0} refl (last (whole_small refl refl (no_point refl (unit_letters refl h.is))));
    })
length-reads u table found alone b n (AToken t ∷ given) =
    reads-or-behind (record { into = length-of table found alone (class_of t) n t refl; onto = after-of table found alone (class_of t) n t refl }) (length-not-empty table found alone n) given
    (length_as (class_of t) u n (λ m. length_behind u m given) given)
    (class-reads u table found alone b (class_of t) n given (λ m. length-reads u table found alone b m given))
length-reads u table found alone b n (AQuantity q ∷ given) =
    none (inl refl) (nothing-begins (IsLength table found alone n) (AQuantity q) given (length-not-empty table found alone n) (λ all w r. elim r [ ]))
length-reads u table found alone b n (End ∷ given) =
    none (inl refl) (nothing-begins (IsLength table found alone n) End given (length-not-empty table found alone n) (λ all w r. elim r [ ]))

pub length-has : (u : Uses) (table : ByDecimal) (found : BySize) (alone : ByQuantity) → Behind u table found alone
    → (n : Bool) → Has (IsLength table found alone n)
length-has u table found alone b n =
    let h = b.unit_rest n 0 0 in
    record { some = AToken (Char category.Other 48) ∷ AToken (Char category.Letter 112) ∷ h.some; worth = h.worth; is = decimal {d = 0} refl (last (whole_small refl refl (no_point refl (unit_letters refl h.is)))) }
