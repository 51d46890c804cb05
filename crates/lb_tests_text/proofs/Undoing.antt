-- Of two saves one stands when the last one is undone.
use Rattle.std.proofs.Common.{◌≡◌, ◌+◌, ◌<◌, ℕ, List, [], ◌∷◌, length, arith}
use Rattle.lb_values.specs.Kept.{Save, saves_undone}

pub one-stands : {X : Type 0} (saves : List (Save X)) (n : ℕ) → length saves ≡ n + 2 → 0 < length (saves_undone saves)
one-stands [] n e = absurd (omega (arith, e))
one-stands (s ∷ saves) n e = omega (arith, e)
