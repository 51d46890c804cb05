-- The pages of plain chapters. Lengths are in scaled points, 65536 to the point.
use Rattle.std.specs.Prelude.{ℕ, ◌+◌, ◌-◌, ◌*◌, ◌/◌, ◌==◌, List, [], ◌∷◌, ◌++◌, length, sum_by, codes, decimal, if◌then◌else◌, Option, None, Some, pos}
use Rattle.lb_base.specs.declared.page.FontId.{FontId}
use Rattle.lb_base.specs.declared.page.Mark.{Mark}
use Rattle.lb_base.specs.declared.page.Mark.TheVariants.{Char}
use Rattle.lb_base.specs.declared.page.PageCode.{PageCode}
use Rattle.lb_model_book.specs.PlainForm.{lines_with_text}

-- the test font at 10pt
abbrev pub roman : FontId
roman = record { name = codes "cmr10"; size = pos 655360; check = 0; design = 655360 }

-- a space is 3pt wide, and any other character 5pt
abbrev pub advance : ℕ → ℕ
advance c = if c == 32 then 196608 else 327680

-- The marks of a row of characters whose first stands at (start, v): each stands behind the width of those before it, and
-- a space leaves no mark.
unfoldable pub row_marks : ℕ → ℕ → List ℕ → List ℕ → List Mark
row_marks start v before [] = []
row_marks start v before (c ∷ rest) =
    (if c == 32 then [] else Char (pos (start + sum_by advance before)) (pos v) roman c (pos 327680) ∷ []) ++ row_marks start v (before ++ c ∷ []) rest

-- a line begins 15pt from the left, and its baseline is 40pt down for line 0 and 12pt more for each later line
abbrev pub line_marks : ℕ → List ℕ → List Mark
line_marks m line = row_marks 983040 (2621440 + 786432 * m) [] line

unfoldable pub lines_marks : ℕ → List (List ℕ) → List Mark
lines_marks m [] = []
lines_marks m (line ∷ lines) = line_marks m line ++ lines_marks (m + 1) lines

-- the page's number in the middle of 345pt, 593pt down
abbrev pub number_marks : ℕ → List Mark
number_marks n = row_marks ((22609920 - 327680 * length (decimal n)) / 2) 38862848 [] (decimal n)

-- a page of these lines, with a height of 593pt and a width of 345pt
abbrev pub page_of : List (List ℕ) → ℕ → PageCode
page_of lines n = record { number = pos n; marks = lines_marks 0 lines ++ number_marks n; height = pos 38862848; width = pos 22609920 }

-- the page of a chapter's text as page n; none where no line has text
abbrev pub page_if_any : List (List ℕ) → ℕ → Option PageCode
page_if_any [] n = None
page_if_any (line ∷ lines) n = Some (page_of (line ∷ lines) n)

abbrev pub plain_page : List ℕ → ℕ → Option PageCode
plain_page text n = page_if_any (lines_with_text text) n
