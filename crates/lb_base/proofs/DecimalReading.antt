-- The fraction that digits stand for, taken from the last digit on.
use Rattle.std.proofs.Common.{◌≡◌, ℕ, ◌+◌, ◌*◌, ◌/◌, ◌^◌, ◌<◌, zero, suc, List, [], ◌∷◌, length, take, min, arith, refl, sym, ap, ◌∙◌}
use Rattle.std.specs.Int.Digits.{number_from_digits_after, number_from_digits}
use Rattle.std.proofs.Math.Nat.{pow-suc, div-div-eq-div-mul, add-mul-div_right}
use Rattle.std.proofs.lemmas.Grind.{common_steps}
use Rattle.lb_base.specs.Decimals.{fraction_from_digits}

-- 131072ths, rounded down
unfoldable pub scaled : List ℕ → ℕ
scaled ds = 131072 * number_from_digits 10 ds / 10 ^ length ds

pub scaled-nil : scaled [] ≡ 0
unfolding scaled
scaled-nil = refl

ten_pow_pos : (k : ℕ) → 0 < 10 ^ k
ten_pow_pos zero = omega arith
ten_pow_pos (suc k) = omega (arith, ten_pow_pos k, pow-suc 10 k)

shifted : (n d p : ℕ) → (n * 10 + d) * p ≡ n * (p * 10) + d * p
shifted n d p = grind arith

number_after : (n : ℕ) (ds : List ℕ) → number_from_digits_after 10 n ds ≡ n * 10 ^ length ds + number_from_digits 10 ds
number_after n [] = omega arith
number_after n (d ∷ ds) =
    let below : 10 ^ length (d ∷ ds) ≡ 10 ^ length ds * 10 = pow-suc 10 (length ds) in
    rw below (omega (arith, number_after (n * 10 + d) ds, number_after (0 * 10 + d) ds, shifted n d (10 ^ length ds), shifted 0 d (10 ^ length ds)))

number-cons : (d : ℕ) (ds : List ℕ) → number_from_digits 10 (d ∷ ds) ≡ d * 10 ^ length ds + number_from_digits 10 ds
number-cons d ds = omega (arith, number_after (0 * 10 + d) ds, shifted 0 d (10 ^ length ds))

over_ten : (x c p : ℕ) → 0 < p → (x / p + c) / 10 ≡ (x + c * p) / (p * 10)
over_ten x c p h =
    ap (λ n. n / 10) (sym (add-mul-div_right x c h)) ∙ div-div-eq-div-mul (x + c * p) p 10

pub scaled-cons : (d : ℕ) (ds : List ℕ) → scaled (d ∷ ds) ≡ (scaled ds + 131072 * d) / 10
unfolding scaled
scaled-cons d ds =
    let p : ℕ = 10 ^ length ds in
    let n : ℕ = number_from_digits 10 ds in
    let top : 131072 * number_from_digits 10 (d ∷ ds) ≡ 131072 * n + 131072 * d * p = omega (arith, number-cons d ds) in
    let below : 10 ^ length (d ∷ ds) ≡ p * 10 = pow-suc 10 (length ds) in
    rw (top, below) (sym (over_ten (131072 * n) (131072 * d) p (ten_pow_pos (length ds))))

-- half of the 131072ths is the nearest 65536th
pub half_scaled : (ds : List ℕ) → (scaled ds + 1) / 2 ≡ fraction_from_digits ds
unfolding scaled
half_scaled ds =
    let p : ℕ = 10 ^ length ds in
    let x : ℕ = 131072 * number_from_digits 10 ds in
    ap (λ n. n / 2) (sym (add-mul-div_right x 1 (ten_pow_pos (length ds))))
    ∙ div-div-eq-div-mul (x + 1 * p) p 2
    ∙ ap (λ n. (x + n) / (p * 2)) (omega arith)
    ∙ ap (λ n. (x + p) / n) (omega arith)

-- all of a list that is short, and else its first 17
pub take-counted : (n : ℕ) (xs : List ℕ) → n ≡ min (length xs) 17 → take n xs ≡ take 17 xs
take-counted n xs e = grind (arith, common_steps)
