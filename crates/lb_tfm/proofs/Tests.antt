-- What tests of numbers say.
use Rattle.std.proofs.Common.{◌≡◌, ◌≢◌, ℕ, ◌<◌, ◌≤◌, Bool, true, false, cond, Option, None, Some, arith, refl}
use Rattle.std.specs.Prelude.{nat_lt, nat_le, ◌==◌, ◌||◌}
use Rattle.std.proofs.lemmas.Bool.Decides.{nat_tests}

pub above : (m n : ℕ) → m < n → nat_lt m n ≡ true
above m n h = grind (arith, nat_tests)

pub not-above : (m n : ℕ) → n ≤ m → nat_lt m n ≡ false
not-above m n h = grind (arith, nat_tests)

pub same : (m n : ℕ) → m ≡ n → (m == n) ≡ true
same m n h = grind (arith, nat_tests)

pub other : (m n : ℕ) → m ≢ n → (m == n) ≡ false
other m n h = grind (arith, nat_tests)

pub is-above : (m n : ℕ) → nat_lt m n ≡ true → m < n
is-above m n h = grind (arith, nat_tests)

pub is-not-above : (m n : ℕ) → nat_lt m n ≡ false → n ≤ m
is-not-above m n h = grind (arith, nat_tests)

pub is-not-from : (m n : ℕ) → nat_le m n ≡ false → n < m
is-not-from m n h = grind (arith, nat_tests)

pub is-same : (m n : ℕ) → (m == n) ≡ true → m ≡ n
is-same m n h = grind (arith, nat_tests)

pub is-some : (m : ℕ) → (m == 0) ≡ false → 0 < m
is-some m h = grind (arith, nat_tests)

pub neither : (a b : Bool) → (a || b) ≡ false → (a ≡ false) × (b ≡ false)
neither true b h = absurd cc
neither false b h = (refl, h)

-- a rule that is kept, in front of others
pub kept : (b : Bool) (word : ℕ) (rest : Option ℕ) → cond b (Some word) rest ≡ None → (b ≡ false) × (rest ≡ None)
kept true word rest h = absurd cc
kept false word rest h = (refl, h)

pub kept-last : (b : Bool) (word : ℕ) → cond b None (Some word) ≡ None → b ≡ true
kept-last true word h = refl
kept-last false word h = absurd cc

pub is-from : (m n : ℕ) → nat_le m n ≡ true → m ≤ n
is-from m n h = grind (arith, nat_tests)
