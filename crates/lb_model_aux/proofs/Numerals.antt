-- Numbers that are written in decimal are read back.
use Rattle.std.proofs.Common.{◌≡◌, ◌∙◌, ◌++◌, ◌+◌, ◌-◌, ◌/◌, ◌%◌, ◌<◌, ◌≤◌, ◌^◌, Bool, true, false, ℕ, suc, ℤ, pos, negsuc, List, [], ◌∷◌, Some, None, refl, ap, arith, decimal, map}
use Rattle.std.specs.Prelude.{◌==◌, ◌&&◌, not, nat_lt, neg_ℤ, if◌then◌else◌}
use Rattle.std.specs.Fmt.{signed_decimal}
use Rattle.std.specs.Int.Digits.{number_from_digits}
use Rattle.std.specs.List.{list_all}
use Rattle.std.specs.Option.{option_map}
use Rattle.std.proofs.lemmas.Fmt.{decimal_by_steps}
use Rattle.std.proofs.lemmas.Int.Digits.{number_push}
use Rattle.std.proofs.lemmas.List.{map-append}
use Rattle.std.proofs.lemmas.List.Folds.{list_all-append}
use Rattle.lb_model.specs.Lines.{is_empty}
use Rattle.lb_model.specs.Ranges.{is_number}
use Rattle.lb_model_aux.specs.Forms.{is_digit, magnitude_of, number_of, value_of}

-- digits that are worth a number
pub record IsNumeral (n : ℕ) (digits : List ℕ) : Type 0 where
  pub some : not (is_empty digits) ≡ true
  pub all : list_all is_digit digits ≡ true
  pub value : value_of digits ≡ n

digit-is : (d : ℕ) → d < 10 → is_digit (48 + d) ≡ true
digit-is d h = grind (arith, h)

one : (n : ℕ) → n < 10 → IsNumeral n ((48 + n) ∷ [])
one n h = record { some = refl; all = rw (digit-is n h) refl; value = omega arith }

some-more : (ds : List ℕ) (d : ℕ) → not (is_empty (ds ++ d ∷ [])) ≡ true
some-more [] d = refl
some-more (x ∷ ds) d = refl

more : (n : ℕ) (ds : List ℕ) → 10 ≤ n → IsNumeral (n / 10) ds → IsNumeral n (ds ++ (48 + n % 10) ∷ [])
more n ds h p = record {
  some = some-more ds (48 + n % 10);
  all = list_all-append is_digit ds ((48 + n % 10) ∷ []) ∙ ap (λ b. b && (is_digit (48 + n % 10) && true)) p.all ∙ ap (λ b. b && true) (digit-is (n % 10) (omega arith));
  value = ap (number_from_digits 10) (map-append (λ c. c - 48) ds ((48 + n % 10) ∷ [])) ∙ number_push 10 (map (λ c. c - 48) ds) ((48 + n % 10) - 48) ∙ omega (arith, p.value);
}

pub numeral : (n : ℕ) → n < 2 ^ 64 → IsNumeral n (decimal n)
numeral = decimal_by_steps IsNumeral one more

magnitude-read : (n : ℕ) → n < 2147483648 → magnitude_of (decimal n) ≡ Some n
magnitude-read n h =
    let p : IsNumeral n (decimal n) = numeral n (omega (arith, h)) in
    let small : nat_lt (value_of (decimal n)) 2147483648 ≡ true = grind (arith, h, p.value) in
    let test : (not (is_empty (decimal n)) && (list_all is_digit (decimal n) && nat_lt (value_of (decimal n)) 2147483648)) ≡ true = rw (p.some, p.all, small) refl in
    ap (λ (b : Bool). if b then Some (value_of (decimal n)) else None) test ∙ ap Some p.value

-- a numeral has no minus before it
no-minus : (ds : List ℕ) → not (is_empty ds) ≡ true → list_all is_digit ds ≡ true → number_of ds ≡ option_map pos (magnitude_of ds)
no-minus [] s d = cc
no-minus (c ∷ ds) s d = by (c == 45) refl where
  by : (b : Bool) → (c == 45) ≡ b → (if b then option_map (λ n. neg_ℤ (pos n)) (magnitude_of ds) else option_map pos (magnitude_of (c ∷ ds))) ≡ option_map pos (magnitude_of (c ∷ ds))
  by false e = refl
  by true e = absurd (grind (arith, d, e))

pub number-read : (n : ℤ) → is_number n ≡ true → number_of (signed_decimal n) ≡ Some n
number-read (pos n) h =
    let small : n < 2147483648 = grind (arith, h) in
    let p : IsNumeral n (decimal n) = numeral n (omega (arith, small)) in
    no-minus (decimal n) p.some p.all ∙ ap (option_map pos) (magnitude-read n small)
number-read (negsuc n) h =
    let small : suc n < 2147483648 = grind (arith, h) in
    ap (option_map (λ n. neg_ℤ (pos n))) (magnitude-read (suc n) small)
