-- Lines of a text, by its bytes.
use Rattle.std.specs.Prelude.{◌==◌, ℕ, zero, suc, List, [], ◌∷◌, if◌then◌else◌}

-- how many bytes the first lines of a text take, with their line feeds
unfoldable pub width_of_lines : ℕ → List ℕ → ℕ
width_of_lines zero text = 0
width_of_lines (suc lines) [] = 0
width_of_lines (suc lines) (c ∷ text) = if c == 10 then suc (width_of_lines lines text) else suc (width_of_lines (suc lines) text)
