-- The codes of categories, from 0 to 15 (TeXbook, chapter 7).
use Rattle.std.specs.Prelude.{ℕ, List, [], ◌∷◌, Option, None, ℤ, pos, negsuc}
use Rattle.std.specs.List.{slice_get}
use Rattle.lb_base.specs.declared.token.Category.{Category}
use Rattle.lb_base.specs.declared.token.Category.TheVariants.{Escape, BeginGroup, EndGroup, MathShift, AlignmentTab, EndOfLine, Parameter, Superscript, Subscript, Ignored, Space, Letter, Other, Active, Comment, Invalid}

unfoldable pub category_code : Category → ℕ
category_code Escape = 0
category_code BeginGroup = 1
category_code EndGroup = 2
category_code MathShift = 3
category_code AlignmentTab = 4
category_code EndOfLine = 5
category_code Parameter = 6
category_code Superscript = 7
category_code Subscript = 8
category_code Ignored = 9
category_code Space = 10
category_code Letter = 11
category_code Other = 12
category_code Active = 13
category_code Comment = 14
category_code Invalid = 15

-- the categories in the order of their codes
unfoldable pub categories : List Category
categories =
    Escape ∷ BeginGroup ∷ EndGroup ∷ MathShift ∷ AlignmentTab ∷ EndOfLine ∷ Parameter ∷ Superscript ∷
    Subscript ∷ Ignored ∷ Space ∷ Letter ∷ Other ∷ Active ∷ Comment ∷ Invalid ∷ []

-- the category of a code, None where it is none of a category
abbrev pub category_at : ℤ → Option Category
category_at (pos code) = slice_get categories code
category_at (negsuc less) = None
