-- Marks of the test font.
use Rattle.std.specs.Prelude.{◌≡◌, ℕ, ◌==◌, if◌then◌else◌, List, [], ◌∷◌, pos}
use Rattle.lb_base.specs.declared.page.Mark.{Mark}
use Rattle.lb_base.specs.declared.page.Mark.TheVariants.{Char, Rule}
use Rattle.lb_model_book.specs.PlainPages.{roman}

-- a character of the test font
abbrev pub IsRoman : Mark → Type 0
IsRoman (Char h v font code width) = font ≡ roman
IsRoman (Rule h v height width) = ⊥

-- the mark of a character at (h, v); a space leaves none
abbrev pub character_marks : ℕ → ℕ → ℕ → List Mark
character_marks h v c = if c == 32 then [] else Char (pos h) (pos v) roman c (pos 327680) ∷ []
