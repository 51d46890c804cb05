-- How large lengths are while they are summed up.
use Rattle.std.specs.Prelude.{ℤ, pos, neg_ℤ, ◌≤ℤ◌}

-- as large as the room can be behind one more item
pub record IsNear (z : ℤ) : Type 0 where
  pub low : neg_ℤ (pos 21474836480) ≤ℤ z
  pub high : z ≤ℤ pos 21474836480

-- as wide as the glue before the first box or rule can be
pub record IsWidth (z : ℤ) : Type 0 where
  pub low : pos 0 ≤ℤ z
  pub high : z ≤ℤ pos 8589934592

pub record IsBadness (z : ℤ) : Type 0 where
  pub low : pos 0 ≤ℤ z
  pub high : z ≤ℤ pos 10000

-- as large as an excess can be
pub record IsFar (z : ℤ) : Type 0 where
  pub low : neg_ℤ (pos 85899345920) ≤ℤ z
  pub high : z ≤ℤ pos 85899345920
