-- The whole numbers nearest to quotients.
use Rattle.std.proofs.Common.{◌≡◌, ℕ, zero, suc, ◌+◌, ◌*◌, ◌/◌, ◌<◌, ◌≤◌, Bool, true, false, not, ℤ, pos, negsuc, neg_ℤ, ◌*ℤ◌, refl, sym, ap, ◌∙◌, arith}
use Rattle.std.proofs.Math.Nat.{div-eq_of_lt, div-eq_of_lt-le}
use Rattle.std.proofs.lemmas.Bool.{le-ltb}
use Rattle.std.proofs.lemmas.Int.{unsigned_abs-mul}
use Rattle.std.specs.Int.{is_negative}
use Rattle.std.specs.Prelude.{unsigned_abs}
use Rattle.lb_model_paper.specs.Boxes.{differ, nearest, signed_as}

-- ---- signs

is_negative-pos : (n : ℕ) → is_negative (pos n) ≡ false
is_negative-pos n = le-ltb n 0 (omega arith)

signed_as-none : (b : Bool) → signed_as b 0 ≡ pos 0
signed_as-none true = refl
signed_as-none false = refl

-- a number is its size with its sign
signed_as-size : (z : ℤ) → signed_as (is_negative z) (unsigned_abs z) ≡ z
signed_as-size (pos n) = ap (λ (b : Bool). signed_as b n) (is_negative-pos n)
signed_as-size (negsuc n) = refl

differ-back : (a b : Bool) → differ (differ a b) a ≡ b
differ-back true true = refl
differ-back true false = refl
differ-back false true = refl
differ-back false false = refl

product_of_sucs : (a b : ℕ) → suc a * suc b ≡ suc (a * suc b + b)
product_of_sucs a b = omega arith

pub is_negative-mul : (a b : ℤ) → (a ≡ pos 0 → ⊥) → (b ≡ pos 0 → ⊥) → is_negative (a *ℤ b) ≡ differ (is_negative a) (is_negative b)
is_negative-mul (pos zero) b some_a some_b = absurd (some_a refl)
is_negative-mul (pos (suc m)) (pos zero) some_a some_b = absurd (some_b refl)
is_negative-mul (pos (suc m)) (pos (suc n)) some_a some_b = is_negative-pos (suc m * suc n) ∙ sym (ap (λ (s : Bool). differ s (is_negative (pos (suc n)))) (is_negative-pos (suc m)) ∙ is_negative-pos (suc n))
is_negative-mul (pos (suc m)) (negsuc n) some_a some_b = ap (λ (k : ℕ). is_negative (neg_ℤ (pos k))) (product_of_sucs m n) ∙ sym (ap (λ (s : Bool). differ s true) (is_negative-pos (suc m)))
is_negative-mul (negsuc m) (pos zero) some_a some_b = absurd (some_b refl)
is_negative-mul (negsuc m) (pos (suc n)) some_a some_b = ap (λ (k : ℕ). is_negative (neg_ℤ (pos k))) (product_of_sucs m n) ∙ sym (ap (λ (s : Bool). not s) (is_negative-pos (suc n)))
is_negative-mul (negsuc m) (negsuc n) some_a some_b = is_negative-pos (suc m * suc n)

-- ---- rounded quotients

half_of : (n : ℕ) → (2 * 0 + suc n) / (2 * suc n) ≡ 0
half_of n = let less : 2 * 0 + suc n < 2 * suc n = omega arith in div-eq_of_lt less

pub nearest-none : (divisor : ℤ) → nearest (pos 0) divisor ≡ pos 0
unfolding nearest
nearest-none (pos zero) = refl
nearest-none (pos (suc n)) = ap (λ (m : ℕ). signed_as (differ false (is_negative (pos (suc n)))) m) (half_of n) ∙ signed_as-none (differ false (is_negative (pos (suc n))))
nearest-none (negsuc n) = ap (λ (m : ℕ). neg_ℤ (pos m)) (half_of n)

mul_none : (z : ℤ) → z *ℤ pos 0 ≡ pos 0
mul_none (pos n) = ap pos (let e : n * 0 ≡ 0 = omega arith in e)
mul_none (negsuc n) = ap (λ (m : ℕ). neg_ℤ (pos m)) (let e : suc n * 0 ≡ 0 = omega arith in e)

none_mul : (z : ℤ) → pos 0 *ℤ z ≡ pos 0
none_mul (pos n) = ap pos (let e : 0 * n ≡ 0 = omega arith in e)
none_mul (negsuc n) = ap (λ (m : ℕ). neg_ℤ (pos m)) (let e : 0 * suc n ≡ 0 = omega arith in e)

pub nearest_no_part : (excess whole : ℤ) → nearest (pos 0 *ℤ excess) whole ≡ pos 0
nearest_no_part excess whole = ap (λ (z : ℤ). nearest z whole) (none_mul excess) ∙ nearest-none whole

pub nearest_no_excess : (part whole : ℤ) → nearest (part *ℤ pos 0) whole ≡ pos 0
nearest_no_excess part whole = ap (λ (z : ℤ). nearest z whole) (mul_none part) ∙ nearest-none whole

rounded : (a b : ℕ) → 0 < a → (2 * (a * b) + a) / (2 * a) ≡ b
rounded a b some =
    let low : b * (2 * a) ≤ 2 * (a * b) + a = grind arith in
    let high : 2 * (a * b) + a < (b + 1) * (2 * a) = grind arith in
    div-eq_of_lt-le {k = b} (2 * a) {m = 2 * (a * b) + a} low high

some_size : (z : ℤ) → (z ≡ pos 0 → ⊥) → 0 < unsigned_abs z
some_size (pos zero) some = absurd (some refl)
some_size (pos (suc n)) some = omega arith
some_size (negsuc n) some = omega arith

-- a product divided by one of its factors
pub nearest-mul : (whole excess : ℤ) → (whole ≡ pos 0 → ⊥) → (excess ≡ pos 0 → ⊥) → nearest (whole *ℤ excess) whole ≡ excess
unfolding nearest
nearest-mul whole excess some_whole some_excess =
    let size : (2 * unsigned_abs (whole *ℤ excess) + unsigned_abs whole) / (2 * unsigned_abs whole) ≡ unsigned_abs excess =
    ap (λ (m : ℕ). (2 * m + unsigned_abs whole) / (2 * unsigned_abs whole)) (unsigned_abs-mul whole excess) ∙ rounded (unsigned_abs whole) (unsigned_abs excess) (some_size whole some_whole) in
    let sign : differ (is_negative (whole *ℤ excess)) (is_negative whole) ≡ is_negative excess =
    ap (λ (s : Bool). differ s (is_negative whole)) (is_negative-mul whole excess some_whole some_excess) ∙ differ-back (is_negative whole) (is_negative excess) in
    ap (λ (s : Bool). signed_as s ((2 * unsigned_abs (whole *ℤ excess) + unsigned_abs whole) / (2 * unsigned_abs whole))) sign ∙ ap (λ (m : ℕ). signed_as (is_negative excess) m) size ∙ signed_as-size excess
