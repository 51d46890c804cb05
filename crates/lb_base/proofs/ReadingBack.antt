-- A fraction is read back from the digits that are written of it, and a dimension from its text.
use Rattle.std.proofs.Common.{◌≡◌, ℕ, ◌+◌, ◌*◌, ◌/◌, ◌%◌, ◌^◌, ◌<◌, ◌≤◌, zero, suc, Bool, true, false, List, [], ◌∷◌, ◌++◌, inl, inr, arith, refl, ap, length, ◌∙◌}
use Rattle.std.specs.Prelude.{All, map, if◌then◌else◌}
use Rattle.std.specs.Char.{digit_value}
use Rattle.std.specs.Int.{abs_diff}
use Rattle.std.specs.Int.Digits.{number_from_digits}
use Rattle.std.proofs.Math.Nat.{pow-suc}
use Rattle.std.proofs.lemmas.Bool.{cases_lt}
use Rattle.std.proofs.lemmas.Bool.Decides.{eqb_tells}
use Rattle.std.proofs.lemmas.List.{map-append}
use Rattle.std.proofs.lemmas.List.Elements.{All-append, All-nil, All-cons}
use Rattle.std.proofs.lemmas.Int.Digits.{number_push}
use Rattle.std.proofs.lemmas.Str.{digit_value_digit}
use Rattle.lb_base.specs.Decimals.{nearest_fraction, nearest_decimal, reads_back, places_of, last_digits, fraction_digits, fraction_from_digits, ascii_digits}
use Rattle.lb_base.proofs.FractionWriting.{padded, padded-suc, reads_back-true, length-fraction_digits}

-- ---- the digits of a number

number-last_digits : (k n : ℕ) → n < 10 ^ k → number_from_digits 10 (last_digits k n) ≡ n
unfolding last_digits
number-last_digits zero n h = omega arith
number-last_digits (suc k) n h =
    let small : n / 10 < 10 ^ k = omega (arith, pow-suc 10 k) in
    omega (arith, number_push 10 (last_digits k (n / 10)) (n % 10), number-last_digits k (n / 10) small)

All-last_digits : (k n : ℕ) → All (λ d. d ≤ 9) (last_digits k n)
unfolding last_digits
All-last_digits zero n = All-nil (λ d. d ≤ 9)
All-last_digits (suc k) n =
    All-append (λ d. d ≤ 9) (last_digits k (n / 10)) ((n % 10) ∷ []) (All-last_digits k (n / 10))
    (All-cons (λ d. d ≤ 9) (n % 10) [] (omega arith) (All-nil (λ d. d ≤ 9)))

values-last_digits : (k n : ℕ) → map digit_value (padded k n) ≡ last_digits k n
unfolding last_digits
values-last_digits zero n = refl
values-last_digits (suc k) n =
    let range : (48 ≤ 48 + n % 10) × (48 + n % 10 ≤ 57) = (omega arith, omega arith) in
    let last : digit_value (48 + n % 10) ≡ n % 10 = omega (arith, digit_value_digit (48 + n % 10) range) in
    ap (map digit_value) (padded-suc k n)
    ∙ map-append digit_value (padded k (n / 10)) ((48 + n % 10) ∷ [])
    ∙ ap (λ (xs : List ℕ). xs ++ digit_value (48 + n % 10) ∷ []) (values-last_digits k (n / 10))
    ∙ ap (λ (d : ℕ). last_digits k (n / 10) ++ d ∷ []) last

-- ---- the decimal that is written

pub record Placed (f places : ℕ) : Type 0 where
  pub again : nearest_fraction places (nearest_decimal places f) ≡ f
  pub some : 0 < places
  pub few : places ≤ 5

placed_here : (k f rest : ℕ) → 0 < k → k ≤ 5 → Placed f rest → Placed f (if reads_back k f then k else rest)
placed_here k f rest some few later =
    elim (eqb_tells (nearest_fraction k (nearest_decimal k f)) f) as (λ _. Placed f (if reads_back k f then k else rest)) [
      | inl here ↦ rw here.0 record { again = here.1; some = some; few = few }
      | inr here ↦ rw here.0 later
    ]

placed_fifth : (f : ℕ) → f < 65536 → Placed f 5
placed_fifth f h = record { again = omega arith; some = omega arith; few = omega arith }

pub placed : (f : ℕ) → f < 65536 → Placed f (places_of f)
unfolding places_of
placed f h =
    placed_here 1 f _ (omega arith) (omega arith)
    (placed_here 2 f _ (omega arith) (omega arith)
    (placed_here 3 f _ (omega arith) (omega arith)
    (placed_here 4 f _ (omega arith) (omega arith) (placed_fifth f h))))

-- a decimal that is read as a fraction is below one
below_one : (k d f : ℕ) → 0 < k → k ≤ 5 → f < 65536 → nearest_fraction k d ≡ f → d < 10 ^ k
below_one zero d f some few small e = absurd (omega arith)
below_one (suc zero) d f some few small e = omega arith
below_one (suc (suc zero)) d f some few small e = omega arith
below_one (suc (suc (suc zero))) d f some few small e = omega arith
below_one (suc (suc (suc (suc zero)))) d f some few small e = omega arith
below_one (suc (suc (suc (suc (suc zero))))) d f some few small e = omega arith
below_one (suc (suc (suc (suc (suc (suc k)))))) d f some few small e = absurd (omega arith)

number-fraction_digits : (f : ℕ) → f < 65536 → number_from_digits 10 (fraction_digits f) ≡ nearest_decimal (places_of f) f
unfolding fraction_digits
number-fraction_digits f h =
    let p : Placed f (places_of f) = placed f h in
    let d : ℕ = nearest_decimal (places_of f) f in
    let small : d < 10 ^ places_of f = below_one (places_of f) d f p.some p.few h p.again in
    number-last_digits (places_of f) d small

pub fraction_back : (f : ℕ) → f < 65536 → fraction_from_digits (fraction_digits f) ≡ f
fraction_back f h = rw (length-fraction_digits, number-fraction_digits f h) (placed f h).again

-- the multiple of 65536 nearest to y
nearest_multiple : (y other : ℕ) → abs_diff (65536 * ((y + 32768) / 65536)) y ≤ abs_diff (65536 * other) y
nearest_multiple y other = omega arith

pub none_nearer : (f other : ℕ) → f < 65536
    → abs_diff (65536 * number_from_digits 10 (fraction_digits f)) (10 ^ length (fraction_digits f) * f)
    ≤ abs_diff (65536 * other) (10 ^ length (fraction_digits f) * f)
none_nearer f other h =
    rw (length-fraction_digits, number-fraction_digits f h) (nearest_multiple (10 ^ places_of f * f) other)

pub values-fraction_digits : (f : ℕ) → map digit_value (ascii_digits (fraction_digits f)) ≡ fraction_digits f
unfolding fraction_digits
values-fraction_digits f = values-last_digits (places_of f) (nearest_decimal (places_of f) f)

pub All-fraction_digits : (f : ℕ) → All (λ d. d ≤ 9) (fraction_digits f)
unfolding fraction_digits
All-fraction_digits f = All-last_digits (places_of f) (nearest_decimal (places_of f) f)

pub some_digits : (f : ℕ) → f < 65536 → 1 ≤ length (fraction_digits f)
some_digits f h = rw length-fraction_digits (placed f h).some

pub few_digits : (f : ℕ) → f < 65536 → length (fraction_digits f) ≤ 5
few_digits f h = rw length-fraction_digits (placed f h).few

-- ---- and no shorter one is read as the fraction

-- of few places only the nearest decimal is
nearest_alone : (k d f : ℕ) → 0 < k → k ≤ 4 → nearest_fraction k d ≡ f → nearest_decimal k f ≡ d
nearest_alone zero d f some few e = absurd (omega arith)
nearest_alone (suc zero) d f some few e = omega arith
nearest_alone (suc (suc zero)) d f some few e = omega arith
nearest_alone (suc (suc (suc zero))) d f some few e = omega arith
nearest_alone (suc (suc (suc (suc zero)))) d f some few e = omega arith
nearest_alone (suc (suc (suc (suc (suc k))))) d f some few e = absurd (omega arith)

either : (b : Bool) (x y n : ℕ) → x ≤ n → y ≤ n → (if b then x else y) ≤ n
either true x y n h g = h
either false x y n h g = g

places_at_most : (k f : ℕ) → 0 < k → k ≤ 4 → reads_back k f ≡ true → places_of f ≤ k
unfolding places_of
places_at_most zero f some few e = absurd (omega arith)
places_at_most (suc zero) f some few e = rw e (omega arith)
places_at_most (suc (suc zero)) f some few e = rw e (either (reads_back 1 f) 1 2 2 (omega arith) (omega arith))
places_at_most (suc (suc (suc zero))) f some few e =
    rw e
    (either (reads_back 1 f) 1 (if reads_back 2 f then 2 else 3) 3 (omega arith)
    (either (reads_back 2 f) 2 3 3 (omega arith) (omega arith)))
places_at_most (suc (suc (suc (suc zero)))) f some few e =
    rw e
    (either (reads_back 1 f) 1 (if reads_back 2 f then 2 else (if reads_back 3 f then 3 else 4)) 4 (omega arith)
    (either (reads_back 2 f) 2 (if reads_back 3 f then 3 else 4) 4 (omega arith)
    (either (reads_back 3 f) 3 4 4 (omega arith) (omega arith))))
places_at_most (suc (suc (suc (suc (suc k))))) f some few e = absurd (omega arith)

fewest : (k d f : ℕ) → f < 65536 → 0 < k → k ≤ 4 → nearest_fraction k d ≡ f → places_of f ≤ k
fewest k d f small some few e =
    places_at_most k f some few (reads_back-true k f (ap (nearest_fraction k) (nearest_alone k d f some few e) ∙ e))

pub no_fewer_digits : (f : ℕ) (digits : List ℕ) → f < 65536 → 1 ≤ length digits → fraction_from_digits digits ≡ f
    → length (fraction_digits f) ≤ length digits
no_fewer_digits f digits small some e =
    rw length-fraction_digits
    (elim (cases_lt (length digits) 5) as (λ _. places_of f ≤ length digits) [
      | inl short ↦
          let few : length digits ≤ 4 = omega arith in
          fewest (length digits) (number_from_digits 10 digits) f small some few e
      | inr long ↦ omega (arith, (placed f small).few)
    ])
