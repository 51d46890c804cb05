-- The formula of a length is the product of the fix-word and the size, rounded down.
use Rattle.std.proofs.Common.{◌≡◌, ℕ, ◌+◌, ◌*◌, ◌/◌, ◌<◌, ◌≤◌, pos, negsuc, ◌+ℤ◌, ◌-ℤ◌, ◌*ℤ◌, Bool, true, false, cond, arith}
use Prim.Native.Nat.{zero, suc}
use Rattle.std.specs.Prelude.{◌==◌}
use Rattle.std.proofs.lemmas.Int.{ints}
use Rattle.lb_model_paper.specs.FontFiles.{divisor, fix_word, IsFloor, IsScaled, product, scaled}

record IsNear (p n den : ℕ) : Type 0 where
  low : p * den ≤ n
  high : n < (p + 1) * den

-- ---- divisions one after another are one division, at each divisor of a size

near-1 : (x y z : ℕ) → IsNear (((x / 256 + y) / 256 + z) / 16) (x + 256 * y + 65536 * z) 1048576
near-1 x y z = record { low = omega arith; high = omega arith }

near-2 : (x y z : ℕ) → IsNear (((x / 256 + y) / 256 + z) / 8) (x + 256 * y + 65536 * z) 524288
near-2 x y z = record { low = omega arith; high = omega arith }

near-4 : (x y z : ℕ) → IsNear (((x / 256 + y) / 256 + z) / 4) (x + 256 * y + 65536 * z) 262144
near-4 x y z = record { low = omega arith; high = omega arith }

near-8 : (x y z : ℕ) → IsNear (((x / 256 + y) / 256 + z) / 2) (x + 256 * y + 65536 * z) 131072
near-8 x y z = record { low = omega arith; high = omega arith }

near-16 : (x y z : ℕ) → IsNear (((x / 256 + y) / 256 + z) / 1) (x + 256 * y + 65536 * z) 65536
near-16 x y z = record { low = omega arith; high = omega arith }

abbrev near_product : ℕ → ℕ → ℕ → ℕ → ℕ → Type 0
near_product by z b c d = IsNear (product z (16 / by) b c d) ((65536 * b + 256 * c + d) * (by * z)) 1048576

product-1 : (z b c d : ℕ) → near_product 1 z b c d
product-1 z b c d = let n = near-1 (d * z) (c * z) (b * z) in record { low = omega arith; high = omega arith }

product-2 : (z b c d : ℕ) → near_product 2 z b c d
product-2 z b c d = let n = near-2 (d * z) (c * z) (b * z) in record { low = omega arith; high = omega arith }

product-4 : (z b c d : ℕ) → near_product 4 z b c d
product-4 z b c d = let n = near-4 (d * z) (c * z) (b * z) in record { low = omega arith; high = omega arith }

product-8 : (z b c d : ℕ) → near_product 8 z b c d
product-8 z b c d = let n = near-8 (d * z) (c * z) (b * z) in record { low = omega arith; high = omega arith }

product-16 : (z b c d : ℕ) → near_product 16 z b c d
product-16 z b c d = let n = near-16 (d * z) (c * z) (b * z) in record { low = omega arith; high = omega arith }

either : (P : ℕ → Type 0) (t u v w : Bool) → P 1 → P 2 → P 4 → P 8 → P 16 → P (cond t 1 (cond u 2 (cond v 4 (cond w 8 16))))
either P true u v w a b c d e = a
either P false true v w a b c d e = b
either P false false true w a b c d e = c
either P false false false true a b c d e = d
either P false false false false a b c d e = e

product-any : (size b c d : ℕ) → near_product (divisor size) (size / divisor size) b c d
product-any size b c d =
    either (λ (by : ℕ). near_product by (size / by) b c d) _ _ _ _ (product-1 (size / 1) b c d) (product-2 (size / 2) b c d) (product-4 (size / 4) b c d) (product-8 (size / 8) b c d) (product-16 (size / 16) b c d)

-- ---- with a sign

times : (x y k : ℕ) → (pos x -ℤ pos y) *ℤ pos k ≡ pos (x * k) -ℤ pos (y * k)
times zero zero k = omega (arith, ints)
times zero (suc y) k = let e : pos 0 -ℤ pos (suc y) ≡ negsuc y = omega (arith, ints) in rw e (omega (arith, ints))
times (suc x) zero k = omega (arith, ints)
times (suc x) (suc y) k =
    let e : pos (suc x) -ℤ pos (suc y) ≡ pos x -ℤ pos y = omega (arith, ints) in
    let h = times x y k in
    rw e (omega (arith, ints, h))

floor-above : (p w k : ℕ) → IsNear p (w * k) 1048576 → IsFloor (pos p) (pos w *ℤ pos k) 1048576
floor-above p w k n = record { low = omega (arith, ints); high = omega (arith, ints) }

floor-below : (p w k : ℕ) → IsNear p (w * k) 1048576 → IsFloor (pos p -ℤ pos (16 * k)) ((pos w -ℤ pos 16777216) *ℤ pos k) 1048576
floor-below p w k n =
    let e : pos p -ℤ pos (16 * k) +ℤ pos 1 ≡ pos (p + 1) -ℤ pos (16 * k) = omega (arith, ints) in
    record {
      low = rw (times p (16 * k) 1048576, times w 16777216 k) (omega (arith, ints));
      high = rw (e, times (p + 1) (16 * k) 1048576, times w 16777216 k) (omega (arith, ints));
    }

times-over : (x y : ℕ) → 16 * x * y ≡ 16 * (x * y)
times-over x y = omega arith

by-sign : (t : Bool) (p w k q : ℕ) → q ≡ 16 * k → IsNear p (w * k) 1048576 → IsFloor (cond t (pos p -ℤ pos q) (pos p)) (cond t (pos w -ℤ pos 16777216) (pos w) *ℤ pos k) 1048576
by-sign true p w k q e n = rw e (floor-below p w k n)
by-sign false p w k q e n = floor-above p w k n

pub is-scaled : (size a b c d : ℕ) → IsScaled size (fix_word a b c d) (scaled size a b c d)
unfolding scaled
is-scaled size a b c d =
    let e : 16 * divisor size * (size / divisor size) ≡ 16 * (divisor size * (size / divisor size)) = times-over (divisor size) (size / divisor size) in
    by-sign (a == 255) (product (size / divisor size) (16 / divisor size) b c d) (65536 * b + 256 * c + d) (divisor size * (size / divisor size)) (16 * divisor size * (size / divisor size)) e (product-any size b c d)
