-- Badness is 100 where all there is has to be used, does not fall where more has to be given, and does not rise where there
-- is more to give.
use Rattle.std.proofs.Common.{◌≡◌, ℕ, ◌+◌, ◌-◌, ◌*◌, ◌/◌, ◌<◌, ◌≤◌, zero, suc, false, inl, inr, arith, ap, ◌∙◌, ℤ, pos, negsuc}
use Rattle.std.specs.Prelude.{if◌then◌else◌, ◌==◌, ◌≤ℤ◌}
use Rattle.std.proofs.Math.Nat.{mul-le-mul_left, div-mul-le_self, div-zero, div-eq_of_lt-le}
use Rattle.std.proofs.lemmas.Nat.{le-div}
use Rattle.std.proofs.lemmas.Bool.{ne_eqb}
use Rattle.std.proofs.lemmas.Bool.Decides.{nat_tests, leb_tells, eqb_tells}
use Rattle.std.proofs.lemmas.Int.{ints}
use Rattle.lb_base.specs.Badness.{ratio_of, badness_of_ratio, badness_of}

div-mono : (a b k : ℕ) → a ≤ b → a / k ≤ b / k
div-mono a b zero h = rw (div-zero, div-zero) (omega arith)
div-mono a b (suc k) h =
    let some : 0 < suc k = omega arith in
    let below : a / suc k * suc k ≤ b = omega (arith, div-mul-le_self a (suc k)) in
    le-div (a / suc k) b (suc k) some below

div-antitone : (n a b : ℕ) → 0 < a → a ≤ b → n / b ≤ n / a
div-antitone n a b some h =
    let product : n / b * a ≤ n / b * b = mul-le-mul_left (n / b) h in
    let below : n / b * a ≤ n = omega (arith, div-mul-le_self n b) in
    le-div (n / b) n a some below

-- past 7230584 the quotient is taken in another way, and does not fall there
div-crossing : (t u s : ℕ) → t ≤ u → 297 ≤ s → 297 * t / s ≤ u / (s / 297)
div-crossing t u s h large =
    let m : ℕ = 297 * t / s in
    let w : ℕ = s / 297 in
    let some : 0 < w = omega arith in
    let below : m * s ≤ 297 * t = div-mul-le_self (297 * t) s in
    let smaller : w * 297 ≤ s = div-mul-le_self s 297 in
    let product : m * (w * 297) ≤ m * s = mul-le-mul_left m smaller in
    let within : m * w ≤ u = omega arith in
    le-div m u w some within

cube_of_sum : (a d : ℕ) → a * a * a ≤ (a + d) * (a + d) * (a + d)
cube_of_sum a d = omega arith

cube-mono : (a b : ℕ) → a ≤ b → a * a * a ≤ b * b * b
cube-mono a b h =
    let sum : a + (b - a) ≡ b = omega arith in
    rw sum at (cube_of_sum a (b - a))

of_large : (ratio : ℕ) → 1290 < ratio → badness_of_ratio ratio ≡ 10000
of_large ratio h = grind (arith, nat_tests)

of_small : (ratio : ℕ) → ratio ≤ 1290 → badness_of_ratio ratio ≡ (ratio * ratio * ratio + 131072) / 262144
of_small ratio h = grind (arith, nat_tests)

ratio-at_most : (ratio : ℕ) → badness_of_ratio ratio ≤ 10000
ratio-at_most ratio =
    elim (leb_tells ratio 1290) as (λ _. badness_of_ratio ratio ≤ 10000) [
      | inl small ↦ rw (of_small ratio small.1) (omega (arith, cube-mono ratio 1290 small.1))
      | inr large ↦ rw (of_large ratio large.1) (omega arith)
    ]

ratio-mono : (a b : ℕ) → a ≤ b → badness_of_ratio a ≤ badness_of_ratio b
ratio-mono a b h =
    elim (leb_tells b 1290) as (λ _. badness_of_ratio a ≤ badness_of_ratio b) [
      | inl small ↦
          let also : a ≤ 1290 = omega (arith, small.1) in
          let cubes : a * a * a + 131072 ≤ b * b * b + 131072 = omega (arith, cube-mono a b h) in
          rw (of_small b small.1, of_small a also) (div-mono (a * a * a + 131072) (b * b * b + 131072) 262144 cubes)
      | inr large ↦ rw (of_large b large.1) (ratio-at_most a)
    ]

early : (t s : ℕ) → t ≤ 7230584 → ratio_of t s ≡ 297 * t / s
early t s h = grind (arith, nat_tests)

late : (t s : ℕ) → 7230584 < t → 1663497 ≤ s → ratio_of t s ≡ t / (s / 297)
late t s h g = grind (arith, nat_tests)

hopeless : (t s : ℕ) → 7230584 < t → s < 1663497 → ratio_of t s ≡ t
hopeless t s h g = grind (arith, nat_tests)

late_grows : (t u s : ℕ) → t ≤ u → 7230584 < u → badness_of_ratio (ratio_of t s) ≤ badness_of_ratio (ratio_of u s)
late_grows t u s h past =
    elim (leb_tells 1663497 s) as (λ _. badness_of_ratio (ratio_of t s) ≤ badness_of_ratio (ratio_of u s)) [
      | inl large ↦
          elim (leb_tells t 7230584) as (λ _. badness_of_ratio (ratio_of t s) ≤ badness_of_ratio (ratio_of u s)) [
            | inl before ↦
                let enough : 297 ≤ s = omega (arith, large.1) in
                rw (early t s before.1, late u s past large.1) (ratio-mono _ _ (div-crossing t u s h enough))
            | inr behind ↦ rw (late t s behind.1 large.1, late u s past large.1) (ratio-mono _ _ (div-mono t u (s / 297) h))
          ]
      | inr small ↦
          let over : 1290 < u = omega arith in
          rw (hopeless u s past small.1, of_large u over) (ratio-at_most (ratio_of t s))
    ]

fitting_grows : (t u s : ℕ) → t ≤ u → badness_of_ratio (ratio_of t s) ≤ badness_of_ratio (ratio_of u s)
fitting_grows t u s h =
    elim (leb_tells u 7230584) as (λ _. badness_of_ratio (ratio_of t s) ≤ badness_of_ratio (ratio_of u s)) [
      | inl before ↦
          let also : t ≤ 7230584 = omega (arith, before.1) in
          rw (early t s also, early u s before.1) (ratio-mono _ _ (div-mono (297 * t) (297 * u) s (mul-le-mul_left 297 h)))
      | inr behind ↦ late_grows t u s h behind.1
    ]

fitting_shrinks : (t s more : ℕ) → 0 < s → s ≤ more → badness_of_ratio (ratio_of t more) ≤ badness_of_ratio (ratio_of t s)
fitting_shrinks t s more some h =
    elim (leb_tells t 7230584) as (λ _. badness_of_ratio (ratio_of t more) ≤ badness_of_ratio (ratio_of t s)) [
      | inl before ↦
          rw (early t more before.1, early t s before.1) (ratio-mono _ _ (div-antitone (297 * t) s more some h))
      | inr behind ↦
          elim (leb_tells 1663497 s) as (λ _. badness_of_ratio (ratio_of t more) ≤ badness_of_ratio (ratio_of t s)) [
            | inl large ↦
                let also : 1663497 ≤ more = omega (arith, large.1) in
                let part : 0 < s / 297 = omega (arith, large.1) in
                rw (late t more behind.1 also, late t s behind.1 large.1)
                (ratio-mono _ _ (div-antitone t (s / 297) (more / 297) part (div-mono s more 297 h)))
            | inr small ↦
                let over : 1290 < t = omega (arith, behind.1) in
                rw (hopeless t s behind.1 small.1, of_large t over) (ratio-at_most (ratio_of t more))
          ]
    ]

-- where all there is has to be used
ratio_of_all : (t : ℕ) → 0 < t → ratio_of t t ≡ 297
ratio_of_all t some =
    elim (leb_tells t 7230584) as (λ _. ratio_of t t ≡ 297) [
      | inl before ↦ early t t before.1 ∙ div-eq_of_lt-le {k = 297} t (omega arith) (omega arith)
      | inr behind ↦
          let large : 1663497 ≤ t = omega (arith, behind.1) in
          let below : 297 * (t / 297) ≤ t = omega arith in
          let above : t < (297 + 1) * (t / 297) = omega (arith, behind.1) in
          late t t behind.1 large ∙ div-eq_of_lt-le {k = 297} (t / 297) below above
    ]

-- ---- with the cases in which there is no ratio

-- nothing to give, or as in x
unless_none : (t x most : ℕ) → x ≤ most → (if t == 0 then 0 else x) ≤ most
unless_none t x most h =
    elim (eqb_tells t 0) as (λ _. (if t == 0 then 0 else x) ≤ most) [
      | inl none ↦ rw none.0 (omega arith)
      | inr some ↦ rw some.0 h
    ]

unless_none-grows : (t u x y : ℕ) → t ≤ u → x ≤ y → (if t == 0 then 0 else x) ≤ (if u == 0 then 0 else y)
unless_none-grows t u x y h g =
    elim (eqb_tells u 0) as (λ _. (if t == 0 then 0 else x) ≤ (if u == 0 then 0 else y)) [
      | inl none ↦ let also : t ≡ 0 = omega (arith, none.1) in rw (none.0, also) (omega arith)
      | inr some ↦ rw some.0 (unless_none t x y g)
    ]

with_some-at_most : (s x : ℕ) → x ≤ 10000 → (if s == 0 then 10000 else x) ≤ 10000
with_some-at_most s x h =
    elim (eqb_tells s 0) as (λ _. (if s == 0 then 10000 else x) ≤ 10000) [
      | inl none ↦ rw none.0 (omega arith)
      | inr some ↦ rw some.0 h
    ]

with_some-grows : (s x y : ℕ) → x ≤ y → (if s == 0 then 10000 else x) ≤ (if s == 0 then 10000 else y)
with_some-grows s x y h =
    elim (eqb_tells s 0) as (λ _. (if s == 0 then 10000 else x) ≤ (if s == 0 then 10000 else y)) [
      | inl none ↦ rw none.0 (omega arith)
      | inr some ↦ rw some.0 h
    ]

pub badness-at_most : (t s : ℤ) → badness_of t s ≤ 10000
badness-at_most (pos t) (pos s) =
    unless_none t (if s == 0 then 10000 else badness_of_ratio (ratio_of t s)) 10000
    (with_some-at_most s (badness_of_ratio (ratio_of t s)) (ratio-at_most (ratio_of t s)))
badness-at_most (pos t) (negsuc s) = unless_none t 10000 10000 (omega arith)
badness-at_most (negsuc t) s = omega arith

pub badness-grows : (t u : ℕ) (s : ℤ) → t ≤ u → badness_of (pos t) s ≤ badness_of (pos u) s
badness-grows t u (pos s) h =
    unless_none-grows t u (if s == 0 then 10000 else badness_of_ratio (ratio_of t s))
    (if s == 0 then 10000 else badness_of_ratio (ratio_of u s)) h
    (with_some-grows s (badness_of_ratio (ratio_of t s)) (badness_of_ratio (ratio_of u s)) (fitting_grows t u s h))
badness-grows t u (negsuc s) h = unless_none-grows t u 10000 10000 h (omega arith)

pub badness-all_of_it : (t : ℕ) → 0 < t → badness_of (pos t) (pos t) ≡ 100
badness-all_of_it t some =
    elim (eqb_tells t 0) as (λ _. badness_of (pos t) (pos t) ≡ 100) [
      | inl none ↦ absurd (omega (arith, none.1))
      | inr other ↦ rw other.0 (ap badness_of_ratio (ratio_of_all t some))
    ]

less_with_more : (t s more : ℕ) → s ≤ more
    → (if more == 0 then 10000 else badness_of_ratio (ratio_of t more)) ≤ (if s == 0 then 10000 else badness_of_ratio (ratio_of t s))
less_with_more t s more h =
    elim (eqb_tells s 0) as (λ _. (if more == 0 then 10000 else badness_of_ratio (ratio_of t more)) ≤ (if s == 0 then 10000 else badness_of_ratio (ratio_of t s))) [
      | inl none ↦ rw none.0 (with_some-at_most more (badness_of_ratio (ratio_of t more)) (ratio-at_most (ratio_of t more)))
      | inr some ↦
          let enough : 0 < s = omega (arith, some.1) in
          let also : (more == 0) ≡ false = ne_eqb more 0 (λ e. omega arith) in
          rw (some.0, also) (fitting_shrinks t s more enough h)
    ]

pub badness-shrinks : (t : ℕ) (s more : ℤ) → s ≤ℤ more → badness_of (pos t) more ≤ badness_of (pos t) s
badness-shrinks t (pos s) (pos more) h =
    let size : s ≤ more = omega (arith, ints) in
    unless_none-grows t t _ _ (omega arith) (less_with_more t s more size)
badness-shrinks t (pos s) (negsuc more) h = absurd (omega (arith, ints))
badness-shrinks t (negsuc s) (pos more) h =
    unless_none-grows t t (if more == 0 then 10000 else badness_of_ratio (ratio_of t more)) 10000 (omega arith)
    (with_some-at_most more (badness_of_ratio (ratio_of t more)) (ratio-at_most (ratio_of t more)))
badness-shrinks t (negsuc s) (negsuc more) h = omega arith
