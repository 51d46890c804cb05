-- The fonts of a text, each by a style and a size: their names (Computer Modern: TeXbook, chapter 4 and appendix E), their sizes, and what
-- lies between baselines at a size (LaTeX, the size commands; classes, file size10.clo). Lengths are in scaled points, 65536 to the point.
use Rattle.std.specs.Prelude.{ℕ, ◌+◌, ◌*◌, List, [], ◌∷◌, ◌++◌, Option, None, Some, codes, ℤ, pos, negsuc}
use Rattle.std.specs.Option.{option_map}
use Rattle.std.specs.List.{slice_get}
use Rattle.lb_base.specs.Decimals.{fraction_from_digits}

-- whole points and the decimal digits behind the point
abbrev pub points : ℕ → List ℕ → ℤ
points whole digits = pos (65536 * whole + fraction_from_digits digits)

-- the names of the styles: roman, bold extended, italic, slanted, typewriter, sans serif
unfoldable pub style_names : List (List ℕ)
style_names = codes "cmr10" ∷ codes "cmbx10" ∷ codes "cmti10" ∷ codes "cmsl10" ∷ codes "cmtt10" ∷ codes "cmss10" ∷ []

-- each size, with its baselineskip
unfoldable pub sizes : List (ℤ × ℤ)
sizes =
    (points 5 [], points 6 []) ∷
    (points 7 [], points 8 []) ∷
    (points 8 [], points 9 (5 ∷ [])) ∷
    (points 9 [], points 11 []) ∷
    (points 10 [], points 12 []) ∷
    (points 12 [], points 14 []) ∷
    (points 14 (4 ∷ []), points 18 []) ∷
    (points 17 (2 ∷ 8 ∷ []), points 22 []) ∷
    (points 20 (7 ∷ 4 ∷ []), points 25 []) ∷
    (points 24 (8 ∷ 8 ∷ []), points 30 []) ∷ []

-- the row of a number that counts from 0, None where the table has none
abbrev pub row : {X : Type 0} → List X → ℤ → Option X
row table (pos n) = slice_get table n
row table (negsuc less) = None

-- a name at a size, where there are both
abbrev pub at_size : Option (List ℕ) → Option (ℤ × ℤ) → Option (List ℕ × ℤ)
at_size (Some name) (Some size) = Some (name, size.0)
at_size _ _ = None

-- the font of a style and a size: its name, and its size
abbrev pub font_name : ℤ → ℤ → Option (List ℕ × ℤ)
font_name style size = at_size (row style_names style) (row sizes size)

-- what lies between baselines at a size
abbrev pub baselineskip_of : ℤ → Option ℤ
baselineskip_of size = option_map (λ s. s.1) (row sizes size)

-- the file of a font of this name
abbrev pub font_file : List ℕ → List ℕ → List ℕ
font_file prefix name = prefix ++ name ++ codes ".tfm"
