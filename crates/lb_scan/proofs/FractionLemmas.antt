-- Digits counted as a number.
use Rattle.std.proofs.Common.{◌≡◌, ◌∙◌, ◌++◌, ◌+◌, ◌*◌, ◌^◌, ◌<◌, ◌≤◌, ◌-◌, Bool, true, false, ℕ, zero, suc, nat_le, List, [], ◌∷◌, Option, Some, None, length, take, refl, sym, subst, ap, arith, inl, inr, if◌then◌else◌, length-append}
use Rattle.std.proofs.lemmas.Grind.{common_steps}
use Rattle.std.proofs.lemmas.Int.Digits.{number_push}
use Rattle.std.proofs.lemmas.List.{take_all, take-append-le}
use Rattle.std.proofs.lemmas.Bool.{cases_lt, lt-leb}
use Rattle.std.proofs.Math.Nat.{pow-suc}
use Rattle.std.specs.Int.Digits.{number_from_digits}
use Rattle.lb_base.specs.Decimals.{fraction_from_digits}
use Rattle.lb_model_grammar.specs.declared.given.Given.{Given}
use Rattle.lb_model_grammar.specs.declared.given.Given.TheVariants.{Tok as AToken, Quantity, End}
use Rattle.lb_model_grammar.specs.declared.given.Scanned.{Scanned}
use Rattle.lb_model_grammar.specs.Dimensions.{Uses, fraction, unit}
use Rattle.lb_model_grammar.specs.Scans.{Meant, digit_of, if_digit}
use Rattle.lb_scan.specs.Lengths.{counted}

pow_positive : (k : ℕ) → 0 < 10 ^ k
pow_positive zero = omega arith
pow_positive (suc k) = omega (arith, pow_positive k, pow-suc 10 k)

pow_grows : (j k : ℕ) → 10 ^ k < 10 ^ (suc j + k)
pow_grows zero k = let e : suc zero + k ≡ suc k = omega arith in rw e (omega (arith, pow_positive k, pow-suc 10 k))
pow_grows (suc j) k =
    let e : suc (suc j) + k ≡ suc (suc j + k) = omega arith in
    rw e (omega (arith, pow_positive k, pow_grows j k, pow-suc 10 (suc j + k)))

by_digit : (o : Option ℕ) (f g : ℕ → Meant Scanned) (x : Meant Scanned) → ((d : ℕ) → f d ≡ g d) → if_digit o f x ≡ if_digit o g x
by_digit (Some d) f g x same = same d
by_digit None f g x same = refl

abbrev scale_of : List ℕ → ℕ
scale_of ds = 10 ^ length (take 17 ds)

abbrev number_of : List ℕ → ℕ
number_of ds = number_from_digits 10 (take 17 ds)

module _ (ds : List ℕ) (d : ℕ) where
  short_scale : length ds < 17 → scale_of (ds ++ d ∷ []) ≡ 10 * scale_of ds
  short_scale h =
      let all : take 17 ds ≡ ds = take_all 17 ds (omega (arith, h)) in
      let longer : length (ds ++ d ∷ []) ≡ suc (length ds) = omega (arith, length-append ds (d ∷ [])) in
      let most : take 17 (ds ++ d ∷ []) ≡ ds ++ d ∷ [] = take_all 17 (ds ++ d ∷ []) (omega (arith, h, longer)) in
      rw (most, all, longer) (omega (arith, pow-suc 10 (length ds)))

  short_number : length ds < 17 → number_of (ds ++ d ∷ []) ≡ 10 * number_of ds + d
  short_number h =
      let all : take 17 ds ≡ ds = take_all 17 ds (omega (arith, h)) in
      let longer : length (ds ++ d ∷ []) ≡ suc (length ds) = omega (arith, length-append ds (d ∷ [])) in
      let most : take 17 (ds ++ d ∷ []) ≡ ds ++ d ∷ [] = take_all 17 (ds ++ d ∷ []) (omega (arith, h, longer)) in
      rw (most, all) (omega (arith, number_push 10 ds d))

  short_open : length ds < 17 → nat_le (10 ^ 17) (scale_of ds) ≡ false
  short_open h =
      let all : take 17 ds ≡ ds = take_all 17 ds (omega (arith, h)) in
      let e : suc (16 - length ds) + length ds ≡ 17 = omega (arith, h) in
      let less : 10 ^ length ds < 10 ^ 17 = subst (λ n. 10 ^ length ds < 10 ^ n) e (pow_grows (16 - length ds) (length ds)) in
      rw all (lt-leb (10 ^ 17) (10 ^ length ds) less)

  long_same : 17 ≤ length ds → take 17 (ds ++ d ∷ []) ≡ take 17 ds
  long_same h = take-append-le 17 ds (d ∷ []) h

  long_full : 17 ≤ length ds → nat_le (10 ^ 17) (scale_of ds) ≡ true
  long_full h = let e : length (take 17 ds) ≡ 17 = grind (arith, common_steps, h) in rw e refl

  module _ (u : Uses) (negative : Bool) (whole : ℕ) (given : List Given) where
    abbrev then_counted : Bool → Meant Scanned
    then_counted b = if b then counted u negative whole (scale_of ds) (number_of ds) given else counted u negative whole (10 * scale_of ds) (10 * number_of ds + d) given

    one_more : counted u negative whole (scale_of (ds ++ d ∷ [])) (number_of (ds ++ d ∷ [])) given ≡ then_counted (nat_le (10 ^ 17) (scale_of ds))
    one_more =
        elim (cases_lt (length ds) 17) [
          | inl h ↦
              ap (λ s. counted u negative whole s (number_of (ds ++ d ∷ [])) given) (short_scale h)
              ∙ ap (λ v. counted u negative whole (10 * scale_of ds) v given) (short_number h)
              ∙ ap then_counted (sym (short_open h))
          | inr h ↦
              ap (λ (l : List ℕ). counted u negative whole (10 ^ length l) (number_from_digits 10 l) given) (long_same h)
              ∙ ap then_counted (sym (long_full h))
        ]

all_digits : (u : Uses) (negative : Bool) (whole : ℕ) (ds : List ℕ) (given : List Given) → fraction u negative whole ds given ≡ counted u negative whole (scale_of ds) (number_of ds) given
all_digits u negative whole ds [] = refl
all_digits u negative whole ds (Quantity q ∷ given) = refl
all_digits u negative whole ds (End ∷ given) = refl
all_digits u negative whole ds (AToken t ∷ given) =
    by_digit (digit_of 10 t) (λ d. fraction u negative whole (ds ++ d ∷ []) given) (λ d. then_counted ds d u negative whole given (nat_le (10 ^ 17) (scale_of ds)))
    (unit u negative whole (fraction_from_digits (take 17 ds)) (AToken t ∷ given))
    (λ d. all_digits u negative whole (ds ++ d ∷ []) given ∙ one_more ds d u negative whole given)

-- no digits yet
pub no_digits : (u : Uses) (negative : Bool) (whole : ℕ) (given : List Given) → fraction u negative whole [] given ≡ counted u negative whole 1 0 given
no_digits u negative whole given = all_digits u negative whole [] given
