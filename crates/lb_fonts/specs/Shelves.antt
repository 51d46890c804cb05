-- The font of a style and a size in a world, and the fonts that are kept.
use Rattle.std.specs.Prelude.{◌≡◌, ℕ, ℤ, pos, List, [], ◌∷◌, unwrap_or, All}
use Rattle.std.specs.Option.{option_map_or}
use Rattle.std.specs.FinMap as map
use Rattle.lb_values.specs.declared.cell.Cell.{Cell}
use Rattle.lb_values.specs.declared.cell.Cell.TheVariants.{Prefix, File}
use Rattle.lb_values.specs.declared.value.Value.{Value}
use Rattle.lb_values.specs.declared.value.Value.TheVariants.{Absent, Text}
use Rattle.lb_model.specs.FontTable.{font_file, font_name}
use Rattle.lb_model.specs.Kinds.{text_of}
use Rattle.lb_model.specs.declared.world.World.{World}
use Rattle.lb_model_paper.specs.Fonts.{FontData}
use Rattle.lb_model_paper.specs.FoundFonts.{FontFound, Found, font_found}
use Rattle.lb_fonts.specs.declared.shelf.FontKey.{FontKey}

-- the name and the size of the font of a style and a size
abbrev pub named_by : FontKey → List ℕ × ℤ
named_by key = unwrap_or (font_name key.style key.size) ([], pos 0)

-- its file, and the font that this gives
abbrev pub file_by : World → FontKey → List ℕ
file_by w key = font_file w.prefix (named_by key).0

abbrev pub value_in : World → List ℕ → Value
value_in w file = option_map_or Text (map.get w.files file) Absent

abbrev pub found_by : World → FontKey → FontFound
found_by w key = font_found (text_of (value_in w (file_by w key))) (named_by key).0 (named_by key).1

-- the cells that tell it
abbrev pub cells_by : World → FontKey → List Cell
cells_by w key = Prefix ∷ File (file_by w key) ∷ []

-- a font that is kept, with its style and size and the cell of its file
pub record Kept : Type 0 where
  pub key : FontKey
  pub file : Cell
  pub font : FontData

-- it is that of its style and size in this world, and that cell tells it
pub record IsRight (w : World) (k : Kept) : Type 0 where
  pub file : k.file ≡ File (file_by w k.key)
  pub font : found_by w k.key ≡ Found k.font

abbrev pub AreRight : World → List Kept → Type 0
AreRight w fonts = All (IsRight w) fonts
