-- The bytes of a fix-word stand for it.
use Rattle.std.proofs.Common.{◌≡◌, ◌≢◌, ℕ, ◌+◌, ◌*◌, ◌-◌, ◌/◌, ◌%◌, ◌<◌, true, arith, ap, ℤ, pos, negsuc, ◌-ℤ◌}
use Prim.Native.Nat.{suc}
use Rattle.std.specs.Prelude.{slice_index}
use Rattle.std.proofs.lemmas.Int.{ints}
use Rattle.lb_model_paper.specs.FontFiles as file
use Rattle.lb_tfm_make.specs.FontBytes.{fix_word}
use Rattle.lb_tfm_make.specs.FontSpecs.{is_fix}
use Rattle.lb_tfm_make.proofs.Tests.{is-above, other, same}

below : (n m : ℕ) → m + suc n ≡ 16777216 → pos m -ℤ pos 16777216 ≡ negsuc n
below n m h = omega (arith, ints)

pub stands-for : (z : ℤ) → is_fix z ≡ true → file.fix_word (slice_index (fix_word z) 0) (slice_index (fix_word z) 1) (slice_index (fix_word z) 2) (slice_index (fix_word z) 3) ≡ z
unfolding fix_word
stands-for (pos n) h =
    let low : n < 16777216 = is-above n 16777216 h in
    let sign : n / 16777216 % 256 ≢ 255 = omega arith in
    let value : 65536 * (n / 65536 % 256) + 256 * (n / 256 % 256) + n % 256 ≡ n = omega arith in
    rw (other (n / 16777216 % 256) 255 sign) (ap pos value)
stands-for (negsuc n) h =
    let low : n < 16777215 = is-above n 16777215 h in
    let m = 4294967296 - suc n in
    let sign : m / 16777216 % 256 ≡ 255 = omega arith in
    let value : 65536 * (m / 65536 % 256) + 256 * (m / 256 % 256) + m % 256 + suc n ≡ 16777216 = omega arith in
    rw (same (m / 16777216 % 256) 255 sign) (below n (65536 * (m / 65536 % 256) + 256 * (m / 256 % 256) + m % 256) value)
