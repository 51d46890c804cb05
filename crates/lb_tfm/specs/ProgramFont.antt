-- A font with a program, worked out by hand, which the definition has to read.
use Rattle.std.specs.Prelude.{ℕ, List, [], ◌∷◌}

-- A font of the characters A, B and C. A has a kern of -1 before B and goes on behind the next step; B restarts at the fourth
-- step; before A both have the ligature 7 of B, and before the right edge, which counts as code 90, a kern of 1/2; so has the left edge.
abbrev pub program_font : List ℕ
program_font =
    0 ∷ 24 ∷ 0 ∷ 2 ∷ 0 ∷ 65 ∷ 0 ∷ 67 ∷ 0 ∷ 2 ∷ 0 ∷ 1 ∷ 0 ∷ 1 ∷ 0 ∷ 1 ∷ 0 ∷ 6 ∷ 0 ∷ 2 ∷ 0 ∷ 0 ∷ 0 ∷ 0
    ∷ 0 ∷ 0 ∷ 0 ∷ 7 ∷ 0 ∷ 160 ∷ 0 ∷ 0
    ∷ 1 ∷ 0 ∷ 1 ∷ 1 ∷ 1 ∷ 0 ∷ 1 ∷ 2 ∷ 1 ∷ 0 ∷ 0 ∷ 0
    ∷ 0 ∷ 0 ∷ 0 ∷ 0 ∷ 0 ∷ 8 ∷ 0 ∷ 0 ∷ 0 ∷ 0 ∷ 0 ∷ 0 ∷ 0 ∷ 0 ∷ 0 ∷ 0 ∷ 0 ∷ 0 ∷ 0 ∷ 0
    ∷ 255 ∷ 90 ∷ 0 ∷ 0 ∷ 1 ∷ 66 ∷ 128 ∷ 0 ∷ 200 ∷ 0 ∷ 0 ∷ 3 ∷ 0 ∷ 65 ∷ 7 ∷ 66 ∷ 128 ∷ 90 ∷ 128 ∷ 1 ∷ 255 ∷ 0 ∷ 0 ∷ 4
    ∷ 255 ∷ 240 ∷ 0 ∷ 0 ∷ 0 ∷ 8 ∷ 0 ∷ 0 ∷ []
