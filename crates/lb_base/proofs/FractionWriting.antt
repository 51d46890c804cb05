-- One turn of the loop that writes the digits of a fraction.
use Rattle.std.proofs.Common.{◌≡◌, ◌≢◌, ℕ, ◌+◌, ◌-◌, ◌*◌, ◌/◌, ◌%◌, ◌^◌, ◌<◌, ◌≤◌, zero, suc, List, [], ◌∷◌, ◌++◌, true, false, arith, refl, sym, ap, set, take, drop, length, append_assoc, ◌∙◌, add-one}
use Rattle.std.specs.Prelude.{nat_lt, if◌then◌else◌}
use Rattle.std.proofs.Math.Nat.{pow-suc}
use Rattle.std.proofs.lemmas.Bool.Decides.{nat_tests}
use Rattle.std.proofs.lemmas.List.{take_more_set, drop-set-lt, drop-drop, length-append, map-append}
use Rattle.std.proofs.lemmas.Grind.{drop_more_same}
use Rattle.lb_base.specs.Decimals.{nearest_fraction, nearest_decimal, reads_back, places_of, last_digits, fraction_digits, ascii_digits}

-- half a unit above a fraction, in 655360ths, with k places before the point
abbrev pub numerator : ℕ → ℕ → ℕ
numerator k f = 10 ^ k * (10 * f + 5)

-- what a digit is taken from
abbrev pub rounded_rest : ℕ → ℕ → ℕ
rounded_rest rest delta = if nat_lt 65536 delta then rest - 17232 else rest

-- the fewest places from k on that read back, or as many as follow
abbrev pub places_from : ℕ → ℕ → ℕ → ℕ
places_from zero k f = k
places_from (suc more) k f = if reads_back k f then k else places_from more (k + 1) f

-- the last k digits of a number, in ASCII
abbrev pub padded : ℕ → ℕ → List ℕ
padded k n = ascii_digits (last_digits k n)

-- ---- the digits

numerator-next : (k f : ℕ) → numerator (k + 1) f ≡ 10 * numerator k f
numerator-next k f = rw (add-one, pow-suc) (grind arith)

left : (n rest : ℕ) → rest ≡ n % 655360 → 10 * (rest % 65536) ≡ 10 * n % 655360
left n rest e = omega arith

digit_of : (n : ℕ) → n % 655360 / 65536 ≡ n / 65536 % 10
digit_of n = omega arith

front_of : (n : ℕ) → n / 65536 / 10 ≡ n / 655360
front_of n = omega arith

next_of : (n : ℕ) → 10 * n / 655360 ≡ n / 65536
next_of n = omega arith

pub padded-suc : (k n : ℕ) → padded (suc k) n ≡ padded k (n / 10) ++ (48 + n % 10) ∷ []
unfolding last_digits
padded-suc k n = map-append (λ (d : ℕ). 48 + d) (last_digits k (n / 10)) ((n % 10) ∷ [])

padded-next : (k n : ℕ) → padded (k + 1) (n / 65536) ≡ padded k (n / 655360) ++ (48 + n % 655360 / 65536) ∷ []
padded-next k n = rw (add-one, digit_of, ← front_of n) (padded-suc k (n / 65536))

early-text : (k f rest : ℕ) → rest ≡ numerator k f % 655360
    → padded (k + 1) (numerator (k + 1) f / 655360) ≡ padded k (numerator k f / 655360) ++ (48 + rest / 65536) ∷ []
early-text k f rest e = rw (numerator-next, next_of, padded-next, e)

early-left : (k f rest : ℕ) → rest ≡ numerator k f % 655360 → 10 * (rest % 65536) ≡ numerator (k + 1) f % 655360
early-left k f rest e = rw numerator-next (left (numerator k f) rest e)

-- ---- when a decimal is read as the fraction again: no more than a unit is left behind it

pub record Reads (k f : ℕ) : Type 0 where
  pub again : nearest_fraction k (nearest_decimal k f) ≡ f
  pub decimal : nearest_decimal k f ≡ numerator k f / 655360

reads : (k f rest : ℕ) → 0 < k → k ≤ 4 → f < 65536 → rest ≡ numerator k f % 655360 → rest ≤ 10 ^ (k + 1) → Reads k f
reads zero f rest some few small e h = absurd (omega arith)
reads (suc zero) f rest some few small e h =
    let same : (10 * f + 32768) / 65536 ≡ 10 * (10 * f + 5) / 655360 = omega arith in
    record { again = omega arith; decimal = same }
reads (suc (suc zero)) f rest some few small e h =
    let same : (100 * f + 32768) / 65536 ≡ 100 * (10 * f + 5) / 655360 = omega arith in
    record { again = omega arith; decimal = same }
reads (suc (suc (suc zero))) f rest some few small e h =
    let same : (1000 * f + 32768) / 65536 ≡ 1000 * (10 * f + 5) / 655360 = omega arith in
    record { again = omega arith; decimal = same }
reads (suc (suc (suc (suc zero)))) f rest some few small e h =
    let same : (10000 * f + 32768) / 65536 ≡ 10000 * (10 * f + 5) / 655360 = omega arith in
    record { again = omega arith; decimal = same }
reads (suc (suc (suc (suc (suc k))))) f rest some few small e h = absurd (omega arith)

reads_not : (k f rest : ℕ) → 0 < k → k ≤ 4 → f < 65536 → rest ≡ numerator k f % 655360 → 10 ^ (k + 1) < rest
    → nearest_fraction k (nearest_decimal k f) ≢ f
reads_not zero f rest some few small e h = absurd (omega arith)
reads_not (suc zero) f rest some few small e h = λ again. omega arith
reads_not (suc (suc zero)) f rest some few small e h = λ again. omega arith
reads_not (suc (suc (suc zero))) f rest some few small e h = λ again. omega arith
reads_not (suc (suc (suc (suc zero)))) f rest some few small e h = λ again. omega arith
reads_not (suc (suc (suc (suc (suc k))))) f rest some few small e h = absurd (omega arith)

pub reads_back-true : (k f : ℕ) → nearest_fraction k (nearest_decimal k f) ≡ f → reads_back k f ≡ true
reads_back-true k f e = grind (arith, nat_tests)

reads_back-false : (k f : ℕ) → nearest_fraction k (nearest_decimal k f) ≢ f → reads_back k f ≡ false
reads_back-false k f e = grind (arith, nat_tests)

-- ---- the invariant of the loop, and what a turn makes of it

pub record Turning (f k rest delta : ℕ) : Type 0 where
  pub small : f < 65536
  pub few : k ≤ 4
  pub rest_is : rest ≡ numerator k f % 655360
  pub delta_is : delta ≡ 10 ^ (k + 1)
  pub more : 0 < k → delta < rest
  pub places : places_of f ≡ places_from (4 - k) (k + 1) f

pub turning-start : (f : ℕ) → f < 65536 → Turning f 0 (10 * f + 5) 10
unfolding places_of
turning-start f h = record {
  small = h;
  few = omega arith;
  rest_is = omega arith;
  delta_is = refl;
  more = λ none. absurd (omega arith);
  places = refl;
}

-- what the digit is taken from is there
pub turning-enough : (f k rest delta : ℕ) → Turning f k rest delta → 65536 < delta → 17232 ≤ rest
turning-enough f zero rest delta t h = omega arith
turning-enough f (suc k) rest delta t h =
    let some : 0 < suc k = omega arith in
    omega (arith, t.more some)

pub turning-small : (f k rest delta : ℕ) → Turning f k rest delta → rest < 655360
turning-small f k rest delta t = omega arith

rest-all : (rest delta : ℕ) → delta ≤ 65536 → rounded_rest rest delta ≡ rest
rest-all rest delta h = grind (arith, nat_tests)

rest-last : (rest delta : ℕ) → 65536 < delta → rounded_rest rest delta ≡ rest - 17232
rest-last rest delta h = grind (arith, nat_tests)

fifth : (x n r : ℕ) → x / 65536 / 10 ≡ n / 655360 → x / 65536 % 10 ≡ r / 65536
    → padded 5 (x / 65536) ≡ padded 4 (n / 655360) ++ (48 + r / 65536) ∷ []
fifth x n r a b = padded-suc 4 (x / 65536) ∙ rw (a, b) refl

-- what a turn makes of the invariant
pub record Turned (f k delta digit left : ℕ) : Type 0 where
  pub ends : left ≤ delta * 10 → places_of f ≡ k + 1
  pub ends_text : left ≤ delta * 10 → ascii_digits (fraction_digits f) ≡ padded k (numerator k f / 655360) ++ digit ∷ []
  pub goes : delta * 10 < left → Turning f (k + 1) left (delta * 10)
  pub goes_text : delta * 10 < left → padded (k + 1) (numerator (k + 1) f / 655360) ≡ padded k (numerator k f / 655360) ++ digit ∷ []

place_here : (more k f : ℕ) → reads_back k f ≡ true → places_from (suc more) k f ≡ k
place_here more k f e = rw e refl

place_later : (more k f : ℕ) → reads_back k f ≡ false → places_from (suc more) k f ≡ places_from more (k + 1) f
place_later more k f e = rw e refl

written_at : (f p : ℕ) → places_of f ≡ p → ascii_digits (fraction_digits f) ≡ padded p (nearest_decimal p f)
unfolding fraction_digits
written_at f p e = rw e refl

turned_early : (f k more rest delta : ℕ) → more + k ≡ 3 → delta ≤ 65536 → Turning f k rest delta
    → Turned f k delta (48 + rounded_rest rest delta / 65536) (10 * (rounded_rest rest delta % 65536))
turned_early f k more rest delta m h t =
    let all : rounded_rest rest delta ≡ rest = rest-all rest delta h in
    let left_is : 10 * (rest % 65536) ≡ numerator (k + 1) f % 655360 = early-left k f rest t.rest_is in
    let ten : delta * 10 ≡ 10 ^ (k + 1 + 1) = rw (t.delta_is, add-one (k + 1), pow-suc 10 (k + 1)) refl in
    let from : 4 - k ≡ suc more = omega arith in
    let from_next : 4 - (k + 1) ≡ more = omega arith in
    let some : 0 < k + 1 = omega arith in
    let few : k + 1 ≤ 4 = omega arith in
    let text : padded (k + 1) (numerator (k + 1) f / 655360) ≡ padded k (numerator k f / 655360) ++ (48 + rest / 65536) ∷ [] =
    early-text k f rest t.rest_is in
    let places : places_of f ≡ places_from (suc more) (k + 1) f = rw from at t.places in
    let read : 10 * (rest % 65536) ≤ delta * 10 → Reads (k + 1) f =
    λ (l : 10 * (rest % 65536) ≤ delta * 10). reads (k + 1) f (10 * (rest % 65536)) some few t.small left_is (rw ten at l) in
    let ends : 10 * (rest % 65536) ≤ delta * 10 → places_of f ≡ k + 1 =
    λ (l : 10 * (rest % 65536) ≤ delta * 10). places ∙ place_here more (k + 1) f (reads_back-true (k + 1) f (read l).again) in
    rw all record {
      ends = ends;
      ends_text = λ l. written_at f (k + 1) (ends l) ∙ ap (padded (k + 1)) (read l).decimal ∙ text;
      goes = λ l. record {
        small = t.small;
        few = few;
        rest_is = left_is;
        delta_is = ten;
        more = λ _. l;
        places =
            let unread : nearest_fraction (k + 1) (nearest_decimal (k + 1) f) ≢ f =
            reads_not (k + 1) f (10 * (rest % 65536)) some few t.small left_is (rw ten at l) in
            rw from_next (places ∙ place_later more (k + 1) f (reads_back-false (k + 1) f unread));
      };
      goes_text = λ _. text;
    }

turned_last : (f rest delta : ℕ) → delta ≡ 100000 → Turning f 4 rest delta
    → Turned f 4 delta (48 + rounded_rest rest delta / 65536) (10 * (rounded_rest rest delta % 65536))
turned_last f rest delta d t =
    let over : 65536 < delta = omega arith in
    let some : 0 < 4 = omega arith in
    let more : delta < rest = t.more some in
    let less : rounded_rest rest delta ≡ rest - 17232 = rest-last rest delta over in
    let five : places_of f ≡ 5 = t.places in
    let whole : rest ≡ (10000 * (10 * f + 5)) % 655360 = t.rest_is in
    let front : (100000 * f + 32768) / 65536 / 10 ≡ 10000 * (10 * f + 5) / 655360 = omega arith in
    let digit : (100000 * f + 32768) / 65536 % 10 ≡ (rest - 17232) / 65536 = omega arith in
    rw less record {
      ends = λ _. five;
      ends_text = λ _. written_at f 5 five ∙ fifth (100000 * f + 32768) (10000 * (10 * f + 5)) (rest - 17232) front digit;
      goes = λ l. absurd (omega arith);
      goes_text = λ l. absurd (omega arith);
    }

pub turned : (f k rest delta : ℕ) → Turning f k rest delta
    → Turned f k delta (48 + rounded_rest rest delta / 65536) (10 * (rounded_rest rest delta % 65536))
turned f zero rest delta t = turned_early f 0 3 rest delta refl (omega arith) t
turned f (suc zero) rest delta t = turned_early f 1 2 rest delta refl (omega arith) t
turned f (suc (suc zero)) rest delta t = turned_early f 2 1 rest delta refl (omega arith) t
turned f (suc (suc (suc zero))) rest delta t = turned_early f 3 0 rest delta refl (omega arith) t
turned f (suc (suc (suc (suc zero)))) rest delta t = turned_last f rest delta t.delta_is t
turned f (suc (suc (suc (suc (suc k))))) rest delta t = absurd (omega arith)

-- ---- a byte written behind a text

pub pushed : (out : List ℕ) (next byte : ℕ) (front text all : List ℕ) → next < length out
    → take next out ≡ front ++ text → all ≡ text ++ byte ∷ [] → take (next + 1) (set out next byte) ≡ front ++ all
pushed out next byte front text all h e f =
    take_more_set out next byte h ∙ ap (λ (xs : List ℕ). xs ++ byte ∷ []) e
    ∙ append_assoc front text (byte ∷ []) ∙ ap (λ (xs : List ℕ). front ++ xs) (sym f)

pub padded-none : (n : ℕ) → padded 0 n ≡ []
unfolding last_digits
padded-none n = refl

pub behind_next : (xs ys : List ℕ) (n byte : ℕ) → drop n xs ≡ drop n ys → drop (n + 1) (set xs n byte) ≡ drop (n + 1) ys
behind_next xs ys n byte e =
    let below : n < n + 1 = omega arith in
    drop-set-lt (n + 1) xs n byte below ∙ drop_more_same xs ys n e

pub length-last_digits : (k n : ℕ) → length (last_digits k n) ≡ k
unfolding last_digits
length-last_digits zero n = refl
length-last_digits (suc k) n = omega (arith, length-append (last_digits k (n / 10)) ((n % 10) ∷ []), length-last_digits k (n / 10))

pub length-fraction_digits : (f : ℕ) → length (fraction_digits f) ≡ places_of f
unfolding fraction_digits
length-fraction_digits f = length-last_digits (places_of f) (nearest_decimal (places_of f) f)

pub behind_more : (xs ys : List ℕ) (n m : ℕ) → n ≤ m → drop n xs ≡ drop n ys → drop m xs ≡ drop m ys
behind_more xs ys n m h e =
    let split : n + (m - n) ≡ m = omega arith in
    let both : drop (n + (m - n)) xs ≡ drop (n + (m - n)) ys =
    sym (drop-drop (m - n) n xs) ∙ ap (drop (m - n)) e ∙ drop-drop (m - n) n ys in
    rw split at both

pub grouped : (front whole rest : List ℕ) (point : ℕ) → (front ++ (whole ++ point ∷ [])) ++ rest ≡ front ++ (whole ++ point ∷ rest)
grouped front whole rest point = simp append_assoc
