-- `\ifcase` of numbers above 0 and below.
use Rattle.std.proofs.Common.{◌≡◌, ◌<ℤ◌, ℤ, zero, suc, pos, negsuc, refl, arith}
use Rattle.std.specs.Prelude.{nat_abs}
use Rattle.lb_model_expansion.specs.Expansion.{case_of, skipped_case}

pub case_above : (z : ℤ) → pos 0 <ℤ z → case_of z ≡ skipped_case (nat_abs z)
case_above (pos zero) a = absurd (omega (arith, a))
case_above (pos (suc m)) a = refl
case_above (negsuc m) a = absurd (omega (arith, a))

pub case_below : (z : ℤ) → z <ℤ pos 0 → case_of z ≡ skipped_case 0
case_below (pos zero) a = absurd (omega (arith, a))
case_below (pos (suc m)) a = absurd (grind (arith, a))
case_below (negsuc m) a = refl
