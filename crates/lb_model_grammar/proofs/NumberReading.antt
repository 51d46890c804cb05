-- What is read of a number, by the grammar.
use Rattle.std.proofs.Common.{append-nil, append_assoc, ◌++◌, length, ◌≡◌, ◌∙◌, ◌+◌, ◌*◌, ◌≤◌, Bool, true, false, not, ℕ, ℤ, pos, nat_lt, List, [], ◌∷◌, Some, None, refl, ap, sym, subst, arith, inl, inr}
use Rattle.std.specs.Prelude.{◌⊎◌, Option, if◌then◌else◌, min}
use Rattle.std.proofs.Math.Nat.{min-eq_left, min-eq_right}
use Rattle.std.proofs.lemmas.Bool.{le-ltb}
use Rattle.lb_base.specs.declared.fault.Kind.{Kind}
use Rattle.lb_base.specs.declared.fault.Kind.TheVariants.{NumberMissing, NumberTooBig}
use Rattle.lb_base.specs.declared.token.Category.TheVariants as category
use Rattle.lb_base.specs.declared.token.Tok.{Tok}
use Rattle.lb_base.specs.declared.token.Tok.TheVariants.{Char, Word, Active, Param}
use Rattle.lb_model_grammar.specs.declared.class.Class.{Class}
use Rattle.lb_model_grammar.specs.declared.class.Class.TheVariants.{Space, Plus, Minus, Digit, Octal, Hexadecimal, Quote, Point, Command, Other}
use Rattle.lb_model_grammar.specs.declared.given.Given.{Given}
use Rattle.lb_model_grammar.specs.declared.given.Given.TheVariants.{Tok as AToken, Quantity as AQuantity, End}
use Rattle.lb_model_grammar.specs.declared.given.Quantity.TheVariants as quantity
use Rattle.lb_model_grammar.specs.declared.given.Scanned.{Scanned}
use Rattle.lb_model_grammar.specs.declared.given.Scanned.TheVariants as scanned
use Rattle.lb_model_grammar.specs.declared.given.Want.{Want}
use Rattle.lb_model_grammar.specs.declared.given.Want.TheVariants as want
use Rattle.lb_model_grammar.specs.NumberGrammar.{Character, Closing, Digits, FirstDigit, Internal, IsNumber, code_of, worth_of}
use Rattle.lb_model_grammar.specs.NumberGrammar.Character.{code}
use Rattle.lb_model_grammar.specs.NumberGrammar.Closing.{bare, space}
use Rattle.lb_model_grammar.specs.NumberGrammar.Digits.{digit, last}
use Rattle.lb_model_grammar.specs.NumberGrammar.FirstDigit.{first}
use Rattle.lb_model_grammar.specs.NumberGrammar.Internal.{number as the_number}
use Rattle.lb_model_grammar.specs.NumberGrammar.IsNumber.{blank, character as a_character, decimal, hexadecimal, internal as an_internal, minus, octal, plus}
use Rattle.lb_model_grammar.specs.Numbers.{character, closed, ended, internal, number, number_as}
use Rattle.lb_model_grammar.specs.Scans.{Meant, class_of, digit_of, digits, grown, if_digit, is_space, signed, some_digits}
use Rattle.lb_model_grammar.specs.Scans.Meant.{Open, Ended, Wrong}
use Rattle.lb_model_grammar.specs.Written.{GoesOn, IsRead, IsTooLarge, NoneBegins, Reads, ReadsOr, Worth, outcome}
use Rattle.lb_model_grammar.specs.Written.Answers.{expanded, plain, quantity as a_quantity}
use Rattle.lb_model_grammar.specs.Written.ReadsOr.{none, reads}
use Rattle.lb_model_grammar.specs.Written.Worth.{TooLarge, Value}
use Rattle.lb_model_grammar.proofs.ReadingSteps.{Step, ends-before, ends-with, nothing-begins, reads-as, reads-behind, reads-or-behind}

-- ---- Values that are alike from the limit on

pub data Alike : ℕ → ℕ → Type 0 where
  same : {v w : ℕ} → v ≡ w → Alike v w
  large : {v w : ℕ} → 2147483648 ≤ v → 2147483648 ≤ w → Alike v w

ended-by : (b : Bool) (n : Bool) (v : ℕ) (rest : List Given)
    → (if b then Ended (scanned.Number (signed n (pos v))) rest else Wrong NumberTooBig)
    ≡ outcome (if b then Value (scanned.Number (signed n (pos v))) else TooLarge NumberTooBig) rest
ended-by true n v rest = refl
ended-by false n v rest = refl

pub ended-alike : (n : Bool) (v w : ℕ) (rest : List Given) → Alike v w → ended n w rest ≡ outcome (worth_of n v) rest
ended-alike n v w rest (same e) = ap (λ k. ended n k rest) (sym e) ∙ ended-by (nat_lt v 2147483648) n v rest
ended-alike n v w rest (large l h) =
    ap (λ (b : Bool). if b then Ended (scanned.Number (signed n (pos w))) rest else Wrong NumberTooBig) (le-ltb w 2147483648 h)
    ∙ sym (ap (λ (b : Bool). outcome (if b then Value (scanned.Number (signed n (pos v))) else TooLarge NumberTooBig) rest) (le-ltb v 2147483648 l))

-- where no number is greater than so many times itself
pub grown-alike : (base v w d : ℕ) → ((x : ℕ) → x ≤ base * x) → Alike v w → Alike (base * v + d) (grown base w d)
grown-alike base v w d grows (large l h) =
    let a : v ≤ base * v = grows v in
    let b : w ≤ base * w = grows w in
    let m : min (base * w + d) 2147483648 ≡ 2147483648 = min-eq_right (omega (arith, b, h)) in
    large (omega (arith, a, l)) (omega (arith, m))
grown-alike base v w d grows (same e) = by (nat_lt (base * w + d) 2147483648) refl where
  by : (b : Bool) → nat_lt (base * w + d) 2147483648 ≡ b → Alike (base * v + d) (grown base w d)
  by true h =
      let m : min (base * w + d) 2147483648 ≡ base * w + d = min-eq_left (omega (arith, Rattle.std.proofs.lemmas.Bool.ltb-true (base * w + d) 2147483648 h)) in
      same (ap (λ k. base * k + d) e ∙ sym m)
  by false h =
      let l : 2147483648 ≤ base * w + d = Rattle.std.proofs.lemmas.Bool.ltb-false (base * w + d) 2147483648 h in
      let m : min (base * w + d) 2147483648 ≡ 2147483648 = min-eq_right l in
      let s : base * v + d ≡ base * w + d = ap (λ k. base * k + d) e in
      large (omega (arith, l, s)) (omega (arith, m))

-- ---- One space

closing-only : (n : Bool) (v : ℕ) (t : Tok) (all : List Given) (w : Worth Scanned) → Closing n v (AToken t ∷ all) w → all ≡ []
closing-only n v t all w (space e) = refl

closing-no-space : (n : Bool) (v : ℕ) (t : Tok) → is_space t ≡ false → (all : List Given) (w : Worth Scanned) → Closing n v (AToken t ∷ all) w → ⊥
closing-no-space n v t f all w (space e) = cc

closing-at : (n : Bool) (v : ℕ) (t : Tok) (given : List Given) (b : Bool) → is_space t ≡ b
    → Reads (Closing n v) (AToken t ∷ given) (if b then outcome (worth_of n v) given else outcome (worth_of n v) (AToken t ∷ given))
closing-at n v t given true e = ends-with (Closing n v) (AToken t) given (worth_of n v) (space e) (closing-only n v t)
closing-at n v t given false e = ends-before (Closing n v) (AToken t) given (worth_of n v) bare (closing-no-space n v t e)

pub closing-reads : (n : Bool) (v w : ℕ) → Alike v w → (given : List Given) → Reads (Closing n v) given (closed n w given)
closing-reads n v w a [] =
    record { next = AToken (Char category.Space 32); answers = expanded; more = []; worth = worth_of n v; is = space refl }
closing-reads n v w a (AToken t ∷ given) =
    subst (λ (f : List Given → Meant Scanned). Reads (Closing n v) (AToken t ∷ given) (if is_space t then f given else f (AToken t ∷ given)))
    (λ i rest. sym (ended-alike n v w rest a) i)
    (closing-at n v t given (is_space t) refl)
closing-reads n v w a (AQuantity q ∷ given) =
    subst (λ (m : Meant Scanned). Reads (Closing n v) (AQuantity q ∷ given) m) (sym (ended-alike n v w (AQuantity q ∷ given) a))
    (ends-before (Closing n v) (AQuantity q) given (worth_of n v) bare (λ all x c. elim c [ ]))
closing-reads n v w a (End ∷ given) =
    subst (λ (m : Meant Scanned). Reads (Closing n v) (End ∷ given) m) (sym (ended-alike n v w (End ∷ given) a))
    (ends-before (Closing n v) End given (worth_of n v) bare (λ all x c. elim c [ ]))

-- ---- Digits

pub space-no-digit : (base d : ℕ) (t : Tok) → is_space t ≡ true → digit_of base t ≡ Some d → ⊥
space-no-digit base d (Char category.Space c) s e = cc
space-no-digit base d (Char cat c) s e = cc
space-no-digit base d (Word name) s e = cc
space-no-digit base d (Active c) s e = cc
space-no-digit base d (Param k) s e = cc

behind-digit : {X : Type 0} (base : ℕ) (K : ℕ → List Given → Worth X → Type 0)
    → ((v d : ℕ) (t : Tok) (all : List Given) (w : Worth X) → digit_of base t ≡ Some d → K v (AToken t ∷ all) w → ⊥)
    → (v d : ℕ) (t : Tok) → digit_of base t ≡ Some d → Step (Digits base K v) (Digits base K (base * v + d)) (AToken t)
behind-digit {X} base K no_digit v d t e = record { into = λ all w r. digit e r; onto = onto } where
  onto : (all : List Given) (w : Worth X) → Digits base K v (AToken t ∷ all) w → Digits base K (base * v + d) all w
  onto all w (last k) = absurd (no_digit v d t all w e k)
  onto all w (digit {d = c} h r) = let q : c ≡ d = cc in subst (λ (x : ℕ). Digits base K (base * v + x) all w) q r

no-digit-behind : {X : Type 0} (base : ℕ) (K : ℕ → List Given → Worth X → Type 0) (v : ℕ) (t : Tok) → digit_of base t ≡ None
    → (all : List Given) (w : Worth X) → Digits base K v (AToken t ∷ all) w → K v (AToken t ∷ all) w
no-digit-behind base K v t e all w (last k) = k
no-digit-behind base K v t e all w (digit h r) = cc

digits-at : {X : Type 0} (base : ℕ) (K : ℕ → List Given → Worth X → Type 0) (done : ℕ → List Given → Meant X)
    → ((x : ℕ) → x ≤ base * x)
    → ((v d : ℕ) (t : Tok) (all : List Given) (w : Worth X) → digit_of base t ≡ Some d → K v (AToken t ∷ all) w → ⊥)
    → (v w : ℕ) → Alike v w → (t : Tok) (given : List Given)
    → ((x y : ℕ) → Alike x y → Reads (Digits base K x) given (digits base y done given))
    → Reads (K v) (AToken t ∷ given) (done w (AToken t ∷ given))
    → (o : Option ℕ) → digit_of base t ≡ o
    → Reads (Digits base K v) (AToken t ∷ given) (if_digit o (λ d. digits base (grown base w d) done given) (done w (AToken t ∷ given)))
digits-at base K done grows no_digit v w a t given ih here (Some d) e =
    reads-behind (behind-digit base K no_digit v d t e) given (digits base (grown base w d) done given)
    (ih (base * v + d) (grown base w d) (grown-alike base v w d grows a))
digits-at base K done grows no_digit v w a t given ih here None e =
    reads-as (record { empty = λ x k. last k; into = λ all x k. last k; onto = no-digit-behind base K v t e }) given (done w (AToken t ∷ given)) here

pub digits-reads : {X : Type 0} (base : ℕ) (K : ℕ → List Given → Worth X → Type 0) (done : ℕ → List Given → Meant X)
    → ((x : ℕ) → x ≤ base * x)
    → ((v d : ℕ) (t : Tok) (all : List Given) (w : Worth X) → digit_of base t ≡ Some d → K v (AToken t ∷ all) w → ⊥)
    → ((v : ℕ) → GoesOn (Digits base K v) [] want.Expanded)
    → ((v w : ℕ) → Alike v w → (g : Given) (given : List Given) → Reads (K v) (g ∷ given) (done w (g ∷ given)))
    → (v w : ℕ) → Alike v w → (given : List Given) → Reads (Digits base K v) given (digits base w done given)
digits-reads base K done grows no_digit goes_on behind v w a [] = goes_on v
digits-reads base K done grows no_digit goes_on behind v w a (AToken t ∷ given) =
    digits-at base K done grows no_digit v w a t given (λ x y b. digits-reads base K done grows no_digit goes_on behind x y b given)
    (behind v w a (AToken t) given) (digit_of base t) refl
digits-reads base K done grows no_digit goes_on behind v w a (AQuantity q ∷ given) =
    reads-as (record { empty = λ x k. last k; into = λ all x k. last k; onto = λ all x r. elim r [ last k ↦ k ] }) given (done w (AQuantity q ∷ given))
    (behind v w a (AQuantity q) given)
digits-reads base K done grows no_digit goes_on behind v w a (End ∷ given) =
    reads-as (record { empty = λ x k. last k; into = λ all x k. last k; onto = λ all x r. elim r [ last k ↦ k ] }) given (done w (End ∷ given)) (behind v w a End given)

closing-no-digit : (base : ℕ) (n : Bool) (v d : ℕ) (t : Tok) (all : List Given) (w : Worth Scanned) → digit_of base t ≡ Some d
    → Closing n v (AToken t ∷ all) w → ⊥
closing-no-digit base n v d t all w e (space s) = space-no-digit base d t s e

-- a constant behind its first digits
pub constant-reads : (base : ℕ) → ((x : ℕ) → x ≤ base * x) → (n : Bool) (d : ℕ) (given : List Given)
    → Reads (Digits base (Closing n) d) given (digits base d (closed n) given)
constant-reads base grows n d given =
    digits-reads base (Closing n) (closed n) grows (closing-no-digit base n)
    (λ v. record { next = AToken (Char category.Space 32); answers = expanded; more = []; worth = worth_of n v; is = last (space refl) })
    (λ v w a g all. closing-reads n v w a (g ∷ all)) d d (same refl) given

-- ---- Digits behind a mark

abbrev Missing : Meant Scanned → Type 0
Missing m = m ≡ Wrong NumberMissing

behind-first : (base : ℕ) (n : Bool) (d : ℕ) (t : Tok) → digit_of base t ≡ Some d → Step (FirstDigit base n) (Digits base (Closing n) d) (AToken t)
behind-first base n d t e = record { into = λ all w r. first e r; onto = onto } where
  onto : (all : List Given) (w : Worth Scanned) → FirstDigit base n (AToken t ∷ all) w → Digits base (Closing n) d all w
  onto all w (first {d = c} h r) = let q : c ≡ d = cc in subst (λ (x : ℕ). Digits base (Closing n) x all w) q r

no-first : (base : ℕ) (n : Bool) (w : Worth Scanned) → FirstDigit base n [] w → ⊥
no-first base n w f = elim f [ ]

no-first-at : (base : ℕ) (n : Bool) (t : Tok) → digit_of base t ≡ None → (all : List Given) (w : Worth Scanned) → FirstDigit base n (AToken t ∷ all) w
    → ⊥
no-first-at base n t e all w (first h r) = cc

first-at : (base : ℕ) → ((x : ℕ) → x ≤ base * x) → (n : Bool) (t : Tok) (given : List Given) (o : Option ℕ) → digit_of base t ≡ o
    → ReadsOr Missing (FirstDigit base n) (AToken t ∷ given) (if_digit o (λ d. digits base d (closed n) given) (Wrong NumberMissing))
first-at base grows n t given (Some d) e =
    reads (reads-behind (behind-first base n d t e) given (digits base d (closed n) given) (constant-reads base grows n d given))
first-at base grows n t given None e = none refl (nothing-begins (FirstDigit base n) (AToken t) given (no-first base n) (no-first-at base n t e))

first-reads : (base : ℕ) → ((x : ℕ) → x ≤ base * x) → digit_of base (Char category.Other 48) ≡ Some 0 → (n : Bool) (given : List Given)
    → ReadsOr Missing (FirstDigit base n) given (some_digits base (closed n) (Wrong NumberMissing) given)
first-reads base grows zero n [] =
    reads (record { next = AToken (Char category.Other 48); answers = expanded; more = []; worth = worth_of n 0; is = first zero (last bare) })
first-reads base grows zero n (AToken t ∷ given) = first-at base grows n t given (digit_of base t) refl
first-reads base grows zero n (AQuantity q ∷ given) =
    none refl (nothing-begins (FirstDigit base n) (AQuantity q) given (no-first base n) (λ all w f. elim f [ ]))
first-reads base grows zero n (End ∷ given) = none refl (nothing-begins (FirstDigit base n) End given (no-first base n) (λ all w f. elim f [ ]))

-- ---- A character behind a backquote

behind-character : (n : Bool) (c : ℕ) (t : Tok) → code_of t ≡ Some c → Step (Character n) (Closing n c) (AToken t)
behind-character n c t e = record { into = λ all w r. code e r; onto = onto } where
  onto : (all : List Given) (w : Worth Scanned) → Character n (AToken t ∷ all) w → Closing n c all w
  onto all w (code {c = b} h r) = let q : b ≡ c = cc in subst (λ (x : ℕ). Closing n x all w) q r

a-character : (n : Bool) (c : ℕ) (t : Tok) → code_of t ≡ Some c → (given : List Given)
    → ReadsOr Missing (Character n) (AToken t ∷ given) (closed n c given)
a-character n c t e given = reads (reads-behind (behind-character n c t e) given (closed n c given) (closing-reads n c c (same refl) given))

no-character : (n : Bool) (t : Tok) → code_of t ≡ None → (given : List Given) → ReadsOr Missing (Character n) (AToken t ∷ given) (Wrong NumberMissing)
no-character n t e given = none refl (nothing-begins (Character n) (AToken t) given (λ w r. elim r [ ]) at) where
  at : (all : List Given) (w : Worth Scanned) → Character n (AToken t ∷ all) w → ⊥
  at all w (code h r) = cc

character-reads : (n : Bool) (given : List Given) → ReadsOr Missing (Character n) given (character n given)
character-reads n [] =
    reads (record { next = AToken (Char category.Other 48); answers = plain; more = []; worth = worth_of n 48; is = code refl bare })
character-reads n (AToken (Char cat c) ∷ given) = a-character n c (Char cat c) refl given
character-reads n (AToken (Active c) ∷ given) = a-character n c (Active c) refl given
character-reads n (AToken (Word []) ∷ given) = no-character n (Word []) refl given
character-reads n (AToken (Word (c ∷ [])) ∷ given) = a-character n c (Word (c ∷ [])) refl given
character-reads n (AToken (Word (c ∷ d ∷ name)) ∷ given) = no-character n (Word (c ∷ d ∷ name)) refl given
character-reads n (AToken (Param k) ∷ given) = no-character n (Param k) refl given
character-reads n (AQuantity q ∷ given) = none refl (nothing-begins (Character n) (AQuantity q) given (λ w r. elim r [ ]) (λ all w r. elim r [ ]))
character-reads n (End ∷ given) = none refl (nothing-begins (Character n) End given (λ w r. elim r [ ]) (λ all w r. elim r [ ]))

-- ---- An internal number

internal-only : (n : Bool) (q : ℤ) (all : List Given) (w : Worth Scanned) → Internal n (AQuantity (quantity.Number q) ∷ all) w → all ≡ []
internal-only n q all w the_number = refl

no-internal : (n : Bool) (g : Given) → ((all : List Given) (w : Worth Scanned) → Internal n (g ∷ all) w → ⊥) → (given : List Given)
    → ReadsOr Missing (Internal n) (g ∷ given) (Wrong NumberMissing)
no-internal n g at given = none refl (nothing-begins (Internal n) g given (λ w r. elim r [ ]) at)

internal-reads : (n : Bool) (given : List Given) → ReadsOr Missing (Internal n) given (internal n given)
internal-reads n [] =
    reads (record { next = AQuantity (quantity.Number (pos 0)); answers = a_quantity; more = []; worth = Value (scanned.Number (signed n (pos 0))); is = the_number })
internal-reads n (AQuantity (quantity.Number q) ∷ given) =
    reads (ends-with (Internal n) (AQuantity (quantity.Number q)) given (Value (scanned.Number (signed n q))) the_number (internal-only n q))
internal-reads n (AQuantity quantity.NotOne ∷ given) = no-internal n (AQuantity quantity.NotOne) (λ all w r. elim r [ ]) given
internal-reads n (AQuantity (quantity.Dimen v) ∷ given) = no-internal n (AQuantity (quantity.Dimen v)) (λ all w r. elim r [ ]) given
internal-reads n (AQuantity (quantity.Skip v) ∷ given) = no-internal n (AQuantity (quantity.Skip v)) (λ all w r. elim r [ ]) given
internal-reads n (AToken t ∷ given) = no-internal n (AToken t) (λ all w r. elim r [ ]) given
internal-reads n (End ∷ given) = no-internal n End (λ all w r. elim r [ ]) given

-- ---- A number

-- what stands behind a token of this class
abbrev After : Class → Bool → List Given → Worth Scanned → Type 0
After Space n = IsNumber n
After Plus n = IsNumber n
After Minus n = IsNumber (not n)
After (Digit d) n = Digits 10 (Closing n) d
After Octal n = FirstDigit 8 n
After Hexadecimal n = FirstDigit 16 n
After Quote n = Character n
After Command n = Internal n
After Point n = λ all w. ⊥
After Other n = λ all w. ⊥

after-of : (k : Class) (n : Bool) (t : Tok) → class_of t ≡ k → (all : List Given) (w : Worth Scanned) → IsNumber n (AToken t ∷ all) w
    → After k n all w
after-of k n t e all w (blank h r) = subst (λ (c : Class). After c n all w) (sym h ∙ e) r
after-of k n t e all w (plus h r) = subst (λ (c : Class). After c n all w) (sym h ∙ e) r
after-of k n t e all w (minus h r) = subst (λ (c : Class). After c n all w) (sym h ∙ e) r
after-of k n t e all w (decimal h r) = subst (λ (c : Class). After c n all w) (sym h ∙ e) r
after-of k n t e all w (octal h r) = subst (λ (c : Class). After c n all w) (sym h ∙ e) r
after-of k n t e all w (hexadecimal h r) = subst (λ (c : Class). After c n all w) (sym h ∙ e) r
after-of k n t e all w (a_character h r) = subst (λ (c : Class). After c n all w) (sym h ∙ e) r
after-of k n t e all w (an_internal h r) = subst (λ (c : Class). After c n all w) (sym h ∙ e) r

number-of : (k : Class) (n : Bool) (t : Tok) → class_of t ≡ k → (all : List Given) (w : Worth Scanned) → After k n all w
    → IsNumber n (AToken t ∷ all) w
number-of Space n t e all w r = blank e r
number-of Plus n t e all w r = plus e r
number-of Minus n t e all w r = minus e r
number-of (Digit d) n t e all w r = decimal e r
number-of Octal n t e all w r = octal e r
number-of Hexadecimal n t e all w r = hexadecimal e r
number-of Quote n t e all w r = a_character e r
number-of Command n t e all w r = an_internal e r
number-of Point n t e all w r = absurd r
number-of Other n t e all w r = absurd r

behind-class : (k : Class) (n : Bool) (t : Tok) → class_of t ≡ k → Step (IsNumber n) (After k n) (AToken t)
behind-class k n t e = record { into = number-of k n t e; onto = after-of k n t e }

pub number-not-empty : (n : Bool) (w : Worth Scanned) → IsNumber n [] w → ⊥
number-not-empty n w r = elim r [ ]

class-reads : (k : Class) (n : Bool) (given : List Given) → ((m : Bool) → ReadsOr Missing (IsNumber m) given (number m given))
    → ReadsOr Missing (After k n) given (number_as k n (λ m. number m given) given)
class-reads Space n given ih = ih n
class-reads Plus n given ih = ih n
class-reads Minus n given ih = ih (not n)
class-reads (Digit d) n given ih = reads (constant-reads 10 (λ x. omega arith) n d given)
class-reads Octal n given ih = first-reads 8 (λ x. omega arith) refl n given
class-reads Hexadecimal n given ih = first-reads 16 (λ x. omega arith) refl n given
class-reads Quote n given ih = character-reads n given
class-reads Command n given ih = internal-reads n given
class-reads Point n given ih = none refl (λ more all behind w e r. r)
class-reads Other n given ih = none refl (λ more all behind w e r. r)

pub number-reads : (n : Bool) (given : List Given) → ReadsOr Missing (IsNumber n) given (number n given)
number-reads n [] =
    reads (record { next = AToken (Char category.Other 48); answers = expanded; more = []; worth = worth_of n 0; is = decimal {d = 0} refl (last bare) })
number-reads n (AToken t ∷ given) =
    reads-or-behind (behind-class (class_of t) n t refl) (number-not-empty n) given (number_as (class_of t) n (λ m. number m given) given)
    (class-reads (class_of t) n given (λ m. number-reads m given))
number-reads n (AQuantity q ∷ given) = none refl (nothing-begins (IsNumber n) (AQuantity q) given (number-not-empty n) (λ all w r. elim r [ ]))
number-reads n (End ∷ given) = none refl (nothing-begins (IsNumber n) End given (number-not-empty n) (λ all w r. elim r [ ]))

-- ---- What numbers are worth

closing-one : (n : Bool) (v : ℕ) (all : List Given) (x y : Worth Scanned) → Closing n v all x → Closing n v all y → x ≡ y
closing-one n v _ x y bare bare = refl
closing-one n v _ x y (space a) (space b) = refl

digits-one : (base : ℕ) (n : Bool) (v : ℕ) (all : List Given) (x y : Worth Scanned) → Digits base (Closing n) v all x
    → Digits base (Closing n) v all y → x ≡ y
digits-one base n v all x y (last a) (last b) = closing-one n v all x y a b
digits-one base n v _ x y (last a) (digit {d = d} {t = t} {given = all} h r) = absurd (closing-no-digit base n v d t all x h a)
digits-one base n v _ x y (digit {d = d} {t = t} {given = all} h r) s =
    digits-one base n (base * v + d) all x y r ((behind-digit base (Closing n) (closing-no-digit base n) v d t h).onto all y s)

first-one : (base : ℕ) (n : Bool) (all : List Given) (x y : Worth Scanned) → FirstDigit base n all x → FirstDigit base n all y → x ≡ y
first-one base n _ x y (first {d = d} {t = t} {given = all} h r) s = digits-one base n d all x y r ((behind-first base n d t h).onto all y s)

character-one : (n : Bool) (all : List Given) (x y : Worth Scanned) → Character n all x → Character n all y → x ≡ y
character-one n _ x y (code {c = c} {t = t} {given = all} h r) s = closing-one n c all x y r ((behind-character n c t h).onto all y s)

internal-one : (n : Bool) (all : List Given) (x y : Worth Scanned) → Internal n all x → Internal n all y → x ≡ y
internal-one n _ x y the_number the_number = refl

pub number-one : (n : Bool) (all : List Given) (x y : Worth Scanned) → IsNumber n all x → IsNumber n all y → x ≡ y
number-one n _ x y (blank {t = t} {given = all} h r) s = number-one n all x y r (after-of Space n t h all y s)
number-one n _ x y (plus {t = t} {given = all} h r) s = number-one n all x y r (after-of Plus n t h all y s)
number-one n _ x y (minus {t = t} {given = all} h r) s = number-one (not n) all x y r (after-of Minus n t h all y s)
number-one n _ x y (decimal {d = d} {t = t} {given = all} h r) s = digits-one 10 n d all x y r (after-of (Digit d) n t h all y s)
number-one n _ x y (octal {t = t} {given = all} h r) s = first-one 8 n all x y r (after-of Octal n t h all y s)
number-one n _ x y (hexadecimal {t = t} {given = all} h r) s = first-one 16 n all x y r (after-of Hexadecimal n t h all y s)
number-one n _ x y (a_character {t = t} {given = all} h r) s = character-one n all x y r (after-of Quote n t h all y s)
number-one n _ x y (an_internal {t = t} {given = all} h r) s = internal-one n all x y r (after-of Command n t h all y s)

-- what is too large is a number that is too big
abbrev IsFine : Worth Scanned → Type 0
IsFine (Value x) = Unit {0}
IsFine (TooLarge kind) = kind ≡ NumberTooBig

fine-by : (b : Bool) (x : Scanned) → IsFine (if b then Value x else TooLarge NumberTooBig)
fine-by true x = tt
fine-by false x = refl

closing-fine : (n : Bool) (v : ℕ) (all : List Given) (w : Worth Scanned) → Closing n v all w → IsFine w
closing-fine n v all w bare = fine-by (nat_lt v 2147483648) (scanned.Number (signed n (pos v)))
closing-fine n v all w (space s) = fine-by (nat_lt v 2147483648) (scanned.Number (signed n (pos v)))

digits-fine : (base : ℕ) (n : Bool) (v : ℕ) (all : List Given) (w : Worth Scanned) → Digits base (Closing n) v all w → IsFine w
digits-fine base n v all w (last k) = closing-fine n v all w k
digits-fine base n v _ w (digit {d = d} {t = t} {given = all} h r) = digits-fine base n (base * v + d) all w r

first-fine : (base : ℕ) (n : Bool) (all : List Given) (w : Worth Scanned) → FirstDigit base n all w → IsFine w
first-fine base n _ w (first {d = d} {t = t} {given = all} h r) = digits-fine base n d all w r

character-fine : (n : Bool) (all : List Given) (w : Worth Scanned) → Character n all w → IsFine w
character-fine n _ w (code {c = c} {t = t} {given = all} h r) = closing-fine n c all w r

number-fine : (n : Bool) (all : List Given) (w : Worth Scanned) → IsNumber n all w → IsFine w
number-fine n _ w (blank {t = t} {given = all} h r) = number-fine n all w r
number-fine n _ w (plus {t = t} {given = all} h r) = number-fine n all w r
number-fine n _ w (minus {t = t} {given = all} h r) = number-fine (not n) all w r
number-fine n _ w (decimal {d = d} {t = t} {given = all} h r) = digits-fine 10 n d all w r
number-fine n _ w (octal {t = t} {given = all} h r) = first-fine 8 n all w r
number-fine n _ w (hexadecimal {t = t} {given = all} h r) = first-fine 16 n all w r
number-fine n _ w (a_character {t = t} {given = all} h r) = character-fine n all w r
number-fine n _ w (an_internal h the_number) = tt

-- ---- By what the list means

pub number-read : (given rest : List Given) (x : Scanned) → number false given ≡ Ended x rest → IsRead (IsNumber false) given (Value x) rest
number-read given rest x e = by (number-reads false given) where
  by : ReadsOr Missing (IsNumber false) given (number false given) → IsRead (IsNumber false) given (Value x) rest
  by (reads r) = subst (λ (m : Meant Scanned). Reads (IsNumber false) given m) e r
  by (none m n) = cc

pub number-goes_on : (given : List Given) (want : Want) → number false given ≡ Open want → GoesOn (IsNumber false) given want
number-goes_on given want e = by (number-reads false given) where
  by : ReadsOr Missing (IsNumber false) given (number false given) → GoesOn (IsNumber false) given want
  by (reads r) = subst (λ (m : Meant Scanned). Reads (IsNumber false) given m) e r
  by (none m n) = cc

pub number-too_large : (given : List Given) → number false given ≡ Wrong NumberTooBig → IsTooLarge (IsNumber false) given NumberTooBig
number-too_large given e = by (number-reads false given) where
  by : ReadsOr Missing (IsNumber false) given (number false given) → IsTooLarge (IsNumber false) given NumberTooBig
  by (reads r) = subst (λ (m : Meant Scanned). Reads (IsNumber false) given m) e r
  by (none m n) = cc

pub number-missing : (given : List Given) → number false given ≡ Wrong NumberMissing → NoneBegins (IsNumber false) given
number-missing given e = by (number-reads false given) where
  by : ReadsOr Missing (IsNumber false) given (number false given) → NoneBegins (IsNumber false) given
  by (none m n) = n
  by (reads r) =
      let t : IsTooLarge (IsNumber false) given NumberMissing = subst (λ (m : Meant Scanned). Reads (IsNumber false) given m) e r in
      let f : NumberMissing ≡ NumberTooBig = number-fine false t.is.read (TooLarge NumberMissing) t.is.is in
      cc

pub number-faults : (given : List Given) (kind : Kind) → number false given ≡ Wrong kind → (kind ≡ NumberTooBig) ⊎ (kind ≡ NumberMissing)
number-faults given kind e = by (number-reads false given) where
  by : ReadsOr Missing (IsNumber false) given (number false given) → (kind ≡ NumberTooBig) ⊎ (kind ≡ NumberMissing)
  by (none m n) = inr cc
  by (reads r) =
      let t : IsTooLarge (IsNumber false) given kind = subst (λ (m : Meant Scanned). Reads (IsNumber false) given m) e r in
      inl (number-fine false t.is.read (TooLarge kind) t.is.is)

-- ---- Each number is read

-- no end of the text is of it
abbrev NoEnd : List Given → Type 0
NoEnd [] = Unit {0}
NoEnd (AToken t ∷ given) = NoEnd given
NoEnd (AQuantity q ∷ given) = NoEnd given
NoEnd (End ∷ given) = ⊥

closing-no-end : (n : Bool) (v : ℕ) (all : List Given) (w : Worth Scanned) → Closing n v all w → NoEnd all
closing-no-end n v _ w bare = tt
closing-no-end n v _ w (space s) = tt

digits-no-end : (base : ℕ) (n : Bool) (v : ℕ) (all : List Given) (w : Worth Scanned) → Digits base (Closing n) v all w → NoEnd all
digits-no-end base n v all w (last k) = closing-no-end n v all w k
digits-no-end base n v _ w (digit {d = d} {given = all} h r) = digits-no-end base n (base * v + d) all w r

first-no-end : (base : ℕ) (n : Bool) (all : List Given) (w : Worth Scanned) → FirstDigit base n all w → NoEnd all
first-no-end base n _ w (first {d = d} {given = all} h r) = digits-no-end base n d all w r

character-no-end : (n : Bool) (all : List Given) (w : Worth Scanned) → Character n all w → NoEnd all
character-no-end n _ w (code {c = c} {given = all} h r) = closing-no-end n c all w r

number-no-end : (n : Bool) (all : List Given) (w : Worth Scanned) → IsNumber n all w → NoEnd all
number-no-end n _ w (blank {given = all} h r) = number-no-end n all w r
number-no-end n _ w (plus {given = all} h r) = number-no-end n all w r
number-no-end n _ w (minus {given = all} h r) = number-no-end (not n) all w r
number-no-end n _ w (decimal {d = d} {given = all} h r) = digits-no-end 10 n d all w r
number-no-end n _ w (octal {given = all} h r) = first-no-end 8 n all w r
number-no-end n _ w (hexadecimal {given = all} h r) = first-no-end 16 n all w r
number-no-end n _ w (a_character {given = all} h r) = character-no-end n all w r
number-no-end n _ w (an_internal h the_number) = tt

end-inside : (given more : List Given) → NoEnd (given ++ End ∷ more) → ⊥
end-inside [] more n = n
end-inside (AToken t ∷ given) more n = end-inside given more n
end-inside (AQuantity q ∷ given) more n = end-inside given more n
end-inside (End ∷ given) more n = n

no-end-behind : (g : Given) (given : List Given) → NoEnd (g ∷ given) → NoEnd given
no-end-behind (AToken t) given n = n
no-end-behind (AQuantity q) given n = n
no-end-behind End given n = absurd n

all-read : (read all rest : List Given) → NoEnd read → length all ≤ length read → all ++ End ∷ [] ≡ read ++ rest → (read ≡ all) × (rest ≡ End ∷ [])
all-read [] [] rest n l e = (refl, sym e)
all-read (g ∷ read) [] rest n l e = let head : g ≡ End = cc in absurd (subst (λ (k : Given). NoEnd (k ∷ read)) head n)
all-read [] (h ∷ all) rest n l e = absurd (omega (arith, l))
all-read (g ∷ read) (h ∷ all) rest n l e =
    let head : g ≡ h = cc in
    let tail : all ++ End ∷ [] ≡ read ++ rest = cc in
    let s = all-read read all rest (no-end-behind g read n) (omega (arith, l)) tail in
    ((λ i. head i ∷ s.0 i), s.1)

pub each-number : (all : List Given) (w : Worth Scanned) → IsNumber false all w → number false (all ++ End ∷ []) ≡ outcome w (End ∷ [])
each-number all w is = by (number false (all ++ End ∷ [])) (number-reads false (all ++ End ∷ [])) where
  same : (rest : List Given) (x : Worth Scanned) → IsRead (IsNumber false) (all ++ End ∷ []) x rest → (x ≡ w) × (rest ≡ End ∷ [])
  same rest x r =
      let l : length all ≤ length r.read = r.longest [] all (End ∷ []) w (append-nil (all ++ End ∷ [])) is in
      let s = all-read r.read all rest (number-no-end false r.read x r.is) l r.parts in
      (number-one false all x w (subst (λ (k : List Given). IsNumber false k x) s.0 r.is) is, s.1)

  inside : (g : Given) (more : List Given) (x : Worth Scanned) → IsNumber false ((all ++ End ∷ []) ++ g ∷ more) x → ⊥
  inside g more x i =
      end-inside all (g ∷ more) (subst NoEnd (append_assoc all (End ∷ []) (g ∷ more)) (number-no-end false ((all ++ End ∷ []) ++ g ∷ more) x i))

  by : (m : Meant Scanned) → ReadsOr Missing (IsNumber false) (all ++ End ∷ []) m → m ≡ outcome w (End ∷ [])
  by m (none f n) = absurd (n [] all (End ∷ []) w (append-nil (all ++ End ∷ [])) is)
  by (Open want) (reads r) = absurd (inside r.next r.more r.worth r.is)
  by (Ended x rest) (reads r) = let s = same rest (Value x) r in λ i. outcome (s.0 i) (s.1 i)
  by (Wrong kind) (reads r) = let s = same r.rest (TooLarge kind) r.is in λ i. outcome (s.0 i) (s.1 i)
