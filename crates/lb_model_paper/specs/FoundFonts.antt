-- The font of a file that may be there (tex.web, part 30).
use Rattle.std.specs.Prelude.{ℕ, List, Option, None, Some, ℤ}
use Rattle.lb_model_paper.specs.FontFiles.{font_of}
use Rattle.lb_model_paper.specs.FontRules.{first_broken}
use Rattle.lb_model_paper.specs.Fonts.{FontData, named}

-- a font; or there is no file; or a rule of the format is broken at this word
pub data FontFound : Type 0 where
  Found : FontData → FontFound
  Missing : FontFound
  Broken : ℕ → FontFound

-- the font of these bytes, where the first rule that is broken and its word are these
abbrev pub font_unless : Option (ℕ × ℕ) → List ℕ → List ℕ → ℤ → FontFound
font_unless None bytes name size = Found (named (font_of bytes size) name)
font_unless (Some broken) bytes name size = Broken broken.1

-- the font of a file's bytes, under a name and at a size
unfoldable pub font_found : Option (List ℕ) → List ℕ → ℤ → FontFound
font_found None name size = Missing
font_found (Some bytes) name size = font_unless (first_broken bytes) bytes name size
