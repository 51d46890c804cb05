-- How large lengths are while they are summed up.
use Rattle.std.specs.Prelude.{ℤ, pos, neg_ℤ, ◌≤ℤ◌}

-- a length as a node has it: at least -2^31 and below 2^31
pub record IsLength (z : ℤ) : Type 0 where
  pub low : neg_ℤ (pos 2147483648) ≤ℤ z
  pub high : z ≤ℤ pos 2147483647

-- as large as the sum of three lengths can be
pub record IsSumOfThree (z : ℤ) : Type 0 where
  pub low : neg_ℤ (pos 6442450944) ≤ℤ z
  pub high : z ≤ℤ pos 6442450941

-- as large as the sum of small ones and five lengths can be
pub record IsSumOfFive (z : ℤ) : Type 0 where
  pub low : neg_ℤ (pos 12884901888) ≤ℤ z
  pub high : z ≤ℤ pos 12884901888

-- as large as the sum of 2^64 lengths can be
pub record IsLongSum (z : ℤ) : Type 0 where
  pub low : neg_ℤ (pos 39614081257132168796771975168) ≤ℤ z
  pub high : z ≤ℤ pos 39614081257132168796771975168
