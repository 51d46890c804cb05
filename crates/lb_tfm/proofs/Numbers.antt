-- Numbers that are read from the rest of a list.
use Rattle.std.proofs.Common.{◌≡◌, ℕ, ◌+◌, ◌-◌, List, length, take, drop, arith, ap, ◌∙◌}
use Rattle.std.specs.Prelude.{slice_index}
use Rattle.std.proofs.lemmas.List.{take_rest, get_or-drop}

pub rest-at : (xs : List ℕ) (k i : ℕ) → slice_index (take (length xs - k) (drop k xs)) i ≡ slice_index xs (k + i)
rest-at xs k i = rw (take_rest xs k) (get_or-drop k xs i 0)

pub rest-first : (xs : List ℕ) (k : ℕ) → slice_index (take (length xs - k) (drop k xs)) 0 ≡ slice_index xs k
rest-first xs k = let e : k + 0 ≡ k = omega arith in rest-at xs k 0 ∙ ap (slice_index xs) e
