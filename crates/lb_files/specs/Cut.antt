-- Texts that stand one behind the other.
use Rattle.std.specs.Prelude.{ℕ, List, [], ◌∷◌, take, drop}

-- the texts of these lengths, from the front
abbrev pub cut : List ℕ → List ℕ → List (List ℕ)
cut [] bytes = []
cut (n ∷ lengths) bytes = take n bytes ∷ cut lengths (drop n bytes)
