-- Lengths with a sign, which a goal shows as they are read from their bits.
use Rattle.std.proofs.Common.{◌≡◌, ◌≢◌, ℕ, ℤ, pos, negsuc, ◌-ℤ◌, ◌*◌, ◌/◌, ◌<◌, false, w32, arith, refl}
use Rattle.std.specs.Prelude.{◌==◌}
use Rattle.std.specs.Int.{int_div_euclid}
use Rattle.std.specs.Int.Signed.{shr_z}
use Rattle.std.proofs.lemmas.Int.{ints, to_z-of_z, to_z_pos}
use Rattle.std.proofs.lemmas.Bool.Decides.{nat_tests}
use mir.Val.{SFits, to_z, of_z}
use Rattle.lb_model_paper.specs.FontFiles.{divisor, product, scaled}

-- ---- a shift by four places rounds down

pub shifted_fits : (z : ℤ) → SFits w32 z → SFits w32 (shr_z z 16)
shifted_fits (pos n) h = search (arith, ints)
shifted_fits (negsuc n) h = search (arith, ints)

pub shifted_is : (z : ℤ) → shr_z z 16 ≡ int_div_euclid z (pos 16)
shifted_is (pos n) = refl
shifted_is (negsuc n) = refl

-- ---- the fix-word at a size

difference_fits : (p q : ℕ) → p < 2147483648 → q < 2147483648 → SFits w32 (pos p -ℤ pos q)
difference_fits p q h k = search (arith, ints)

pub difference_read : (p q : ℕ) → p < 2147483648 → q < 2147483648 → to_z w32 (of_z w32 (to_z w32 p -ℤ to_z w32 q)) ≡ pos p -ℤ pos q
difference_read p q h k = rw (to_z_pos w32 p h, to_z_pos w32 q k) (to_z-of_z w32 (pos p -ℤ pos q) (difference_fits p q h k))

is_other : (m n : ℕ) → m ≢ n → (m == n) ≡ false
is_other m n h = grind (arith, nat_tests)

pub scaled_below : (size a b c d by p : ℕ) → a ≡ 255 → by ≡ divisor size → p ≡ product (size / by) (16 / by) b c d → pos p -ℤ pos (16 * by * (size / by)) ≡ scaled size a b c d
unfolding scaled
scaled_below size a b c d by p low same is = rw (is, same, low) refl

pub scaled_above : (size a b c d by p : ℕ) → a ≢ 255 → by ≡ divisor size → p ≡ product (size / by) (16 / by) b c d → pos p ≡ scaled size a b c d
unfolding scaled
scaled_above size a b c d by p high same is = rw (is, same, is_other a 255 high) refl
