-- How bad it is that glue has to give (tex.web, section 108): about 100 times the cube of t / s, where glue that can stretch
-- or shrink by s has to do so by t. Both are in scaled points.
use Rattle.std.specs.Prelude.{ℕ, ℤ, pos, negsuc, ◌+◌, ◌*◌, ◌/◌, ◌==◌, nat_le, nat_lt, if◌then◌else◌}

-- about 297 times t / s, since 297 is about the cube root of 100 times 2^18; no product in it passes 2^31
abbrev pub ratio_of : ℕ → ℕ → ℕ
ratio_of t s =
    if nat_le t 7230584 then 297 * t / s
    else (if nat_le 1663497 s then t / (s / 297) else t)

-- the cube of such a ratio divided by 2^18, to the nearest; above 1290 it is as bad as can be, where the cube passes 2^31
abbrev pub badness_of_ratio : ℕ → ℕ
badness_of_ratio ratio = if nat_lt 1290 ratio then 10000 else (ratio * ratio * ratio + 131072) / 262144

-- nothing to give is never bad, and nothing to give it with is as bad as can be; t is not negative
abbrev pub badness_of : ℤ → ℤ → ℕ
badness_of (pos t) (pos s) = if t == 0 then 0 else (if s == 0 then 10000 else badness_of_ratio (ratio_of t s))
badness_of (pos t) (negsuc _) = if t == 0 then 0 else 10000
badness_of (negsuc _) _ = 0
