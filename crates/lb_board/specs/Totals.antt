-- Totals over lists.
use Rattle.std.specs.Prelude.{ℕ, ◌+◌, Bool, cond, ◌==◌, List, [], ◌∷◌}

-- f of each, added up
abbrev pub total : {A : Type 0} → (A → ℕ) → List A → ℕ
total f [] = 0
total f (x ∷ xs) = f x + total f xs

abbrev pub same : ℕ → ℕ → ℕ
same c x = cond (x == c) 1 0

-- how often c stands in the list
abbrev pub times : ℕ → List ℕ → ℕ
times c xs = total (same c) xs

abbrev pub bit : Bool → ℕ
bit b = cond b 1 0
