-- The present font as it is asked for, and what is done with a font.
use Rattle.std.specs.Prelude.{ℕ, List, [], ◌∷◌}
use Rattle.lb_values.specs.declared.cell.Cell.TheVariants.{Size, Style}
use Rattle.lb_values.specs.declared.cell.Cell.{Cell}
use Rattle.lb_model.specs.Kinds.{size_of, style_of}
use Rattle.lb_model_paper.specs.Fonts.{FontData}
use Rattle.lb_model_nest.specs.Pages.{has_code}
use Rattle.lb_model_nest.specs.Wholes.{Executed, Whole, executed, tells}
use Rattle.lb_model_nest.specs.Words.{put_as}
use Rattle.lb_fonts.specs.declared.shelf.FontKey.{FontKey}
use Rattle.lb_nest.specs.declared.fonts.Chosen.{Chosen}
use Rattle.lb_nest.specs.declared.fonts.Chosen.TheVariants as chosen

-- the style and the size of the present font, and the cells that tell them
abbrev pub styled : Whole → FontKey
styled w = record { style = style_of (tells w Style); size = size_of (tells w Size) }

abbrev pub style_cells : List Cell
style_cells = Style ∷ Size ∷ []

-- this is done with a font, or there is none
abbrev pub behind_font : (FontData → Whole → Executed) → Chosen → Whole → Executed
behind_font row (chosen.Font font) w = row font w
behind_font row (chosen.Stops went) w = executed went w

-- a character is put behind the word, in this font
abbrev pub put_row : ℕ → FontData → Whole → Executed
put_row code font w = put_as (has_code font code) code font w
