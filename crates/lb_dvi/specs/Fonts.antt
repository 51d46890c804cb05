-- What the writer keeps true of the fonts of a file.
use Rattle.std.specs.Prelude.{◌≡◌, ◌⊎◌, ◌≤◌, List, [], ◌∷◌, length, take, Option, None, Some, ⊤, true}
use Rattle.std.specs.List.{AllByRecursion}
use Rattle.lb_base.specs.declared.page.FontId.{FontId}
use Rattle.lb_base.specs.declared.page.Mark.{Mark}
use Rattle.lb_base.specs.declared.page.Mark.TheVariants.{Char, Rule}
use Rattle.lb_model_paper.specs.Dvi.{is_defined, same_font}

-- the length of a font's name fits a byte
abbrev pub IsNamed : FontId → Type 0
IsNamed font = length font.name ≤ 255

pub record AreUsable (fonts : List FontId) : Type 0 where
  pub few : length fonts ≤ 60
  pub named : AllByRecursion IsNamed fonts

-- the list of fonts begins with the former one
abbrev pub Extends : List FontId → List FontId → Type 0
Extends former fonts = take (length former) fonts ≡ former

-- the present font, if any, is among the fonts
abbrev pub IsKnown : List FontId → Option FontId → Type 0
IsKnown fonts None = ⊤
IsKnown fonts (Some present) = is_defined fonts present ≡ true

-- no font, or this one alone
abbrev pub IsAtMostFont : FontId → List FontId → Type 0
IsAtMostFont font fonts = (fonts ≡ []) ⊎ (fonts ≡ font ∷ [])

-- a mark of this font, or a rule
abbrev pub IsOfFont : FontId → Mark → Type 0
IsOfFont font (Char h v used code width) = same_font used font ≡ true
IsOfFont font (Rule h v height width) = ⊤

abbrev pub AreOfFont : FontId → List Mark → Type 0
AreOfFont font marks = AllByRecursion (IsOfFont font) marks
