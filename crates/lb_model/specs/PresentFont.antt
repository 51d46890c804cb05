-- The font of the present style and size (TeXbook, chapter 4; source2e, the font selection of the kernel).
use Rattle.std.specs.Prelude.{ℕ, ℤ, pos, List, [], ◌∷◌, Option, unwrap_or}
use Rattle.lb_values.specs.declared.cell.Cell.{Cell}
use Rattle.lb_values.specs.declared.cell.Cell.TheVariants as cell
use Rattle.lb_model.specs.Configs.{Config}
use Rattle.lb_model.specs.FontTable.{font_file, font_name}
use Rattle.lb_model.specs.Kinds.{name_of, size_of, style_of, text_of}
use Rattle.lb_model.specs.Settings.{look}

-- its name and size
abbrev pub font_chosen : Config → List ℕ × ℤ
font_chosen c = unwrap_or (font_name (style_of (look c.world c.cells.now cell.Style)) (size_of (look c.world c.cells.now cell.Size))) ([], pos 0)

-- its file, and the text of that
abbrev pub font_file_now : Config → List ℕ
font_file_now c = font_file (unwrap_or (name_of (look c.world c.cells.now cell.Prefix)) []) (font_chosen c).0

abbrev pub font_text_now : Config → Option (List ℕ)
font_text_now c = text_of (look c.world c.cells.now (cell.File (font_file_now c)))

abbrev pub looks_of_font : Config → List Cell
looks_of_font c = cell.Style ∷ cell.Size ∷ cell.Prefix ∷ cell.File (font_file_now c) ∷ []
