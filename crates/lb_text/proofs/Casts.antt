-- A length below 2^30 in size is kept by a cast to 32 bits.
use Rattle.std.proofs.Common.{◌≡◌, ℤ, ◌<◌, ◌^◌, arith, w32, w64, to_z, of_z}
use lib.Signed.{mag}
use Rattle.std.proofs.lemmas.Int.{ints, to_z-of_z}
use mir.Val.{SFits, hbits}
use Rattle.lb_model_paper.specs.Dvi.{IsSmall}

small_fits : (z : ℤ) → IsSmall z → SFits w32 z
small_fits z s = search (arith, ints)

pub kept : (z : ℤ) → SFits w64 z → IsSmall z → to_z w32 (of_z w32 (to_z w64 (of_z w64 z))) ≡ z
kept z f s = rw (to_z-of_z w64 z f) (to_z-of_z w32 z (small_fits z s))

pub kept_number : (z : ℤ) → mag z < 2 ^ hbits w64 → IsSmall z → to_z w32 (of_z w32 (to_z w64 (of_z w64 z))) ≡ z
kept_number z f s = kept z (search (arith, ints)) s
