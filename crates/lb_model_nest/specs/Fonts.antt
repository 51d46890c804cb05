-- The fonts of characters (TeXbook, chapter 4; tex.web, part 30; source2e, the font selection of the kernel).
use Rattle.std.specs.Prelude.{ℕ, ℤ, pos, List, [], ◌∷◌, unwrap_or}
use Rattle.lb_base.specs.declared.fault.Kind.TheVariants.{BadTfm, FontMissing}
use Rattle.lb_values.specs.declared.cell.Cell.{Cell}
use Rattle.lb_values.specs.declared.cell.Cell.TheVariants.{File, Prefix}
use Rattle.lb_model.specs.FontTable.{font_file, font_name}
use Rattle.lb_model.specs.Kinds.{name_of, text_of}
use Rattle.lb_model_paper.specs.Fonts.{FontData}
use Rattle.lb_model_paper.specs.FoundFonts.{Broken, FontFound, Found, Missing, font_found}
use Rattle.lb_model.specs.PresentFont.{font_chosen, font_file_now, font_text_now, looks_of_font}
use Rattle.lb_model_nest.specs.Wholes.{Executed, Whole, looking, stop, stop_at, tells}

-- what is done with a font; a file that is missing, or breaks a rule of the format at a word, is a fault
abbrev pub font_to : FontFound → List ℕ → (FontData → Whole → Executed) → Whole → Executed
font_to (Found font) file row w = row font w
font_to Missing file row w = stop FontMissing w
font_to (Broken word) file row w = stop_at (record { kind = BadTfm; file = file; line = word }) w

-- the font of the present style and size
abbrev pub present : (FontData → Whole → Executed) → Whole → Executed
present row w =
    looking (looks_of_font w.feed)
    (font_to (font_found (font_text_now w.feed) (font_chosen w.feed).0 (font_chosen w.feed).1) (font_file_now w.feed) row w)

-- the font of the numbers of pages: that of style 0 at size 4
abbrev pub number_font : List ℕ × ℤ
number_font = unwrap_or (font_name (pos 0) (pos 4)) ([], pos 0)

abbrev pub number_file : Whole → List ℕ
number_file w = font_file (unwrap_or (name_of (tells w Prefix)) []) number_font.0

abbrev pub looks_of_number_font : Whole → List Cell
looks_of_number_font w = Prefix ∷ File (number_file w) ∷ []

abbrev pub in_number_font : (FontData → Whole → Executed) → Whole → Executed
in_number_font row w =
    looking (looks_of_number_font w) (font_to (font_found (text_of (tells w (File (number_file w)))) number_font.0 number_font.1) (number_file w) row w)
