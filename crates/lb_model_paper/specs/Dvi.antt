-- The bytes of a DVI file, by the DVI format, version 2 (tex.web, parts 31 and 32). Of the commands that move it uses
-- down and right alone, and no stack. Lengths are in scaled points.
use Rattle.std.specs.Prelude.{ℕ, ◌+◌, ◌-◌, ◌/◌, ◌%◌, Bool, false, ◌&&◌, ◌==◌, nat_lt, nat_eq, List, [], ◌∷◌, ◌++◌, length, drop, reverse, replicate, codes, if◌then◌else◌, ◌||◌, ◌≤◌, Option, None, Some, ℤ, pos, negsuc, ◌-ℤ◌, ◌+ℤ◌, ◌≤ℤ◌, int_le}
use Rattle.std.specs.Int.{w16, w32, to_be_bytes, cast_unsigned, int_max}
use Rattle.std.specs.List.{list_any, position_or_len, AllByRecursion}
use lib.Pointwise.{pointwise}
use Rattle.lb_base.specs.declared.moment.Moment.{Moment}
use Rattle.lb_base.specs.declared.page.FontId.{FontId}
use Rattle.lb_base.specs.declared.page.Mark.{Mark}
use Rattle.lb_base.specs.declared.page.Mark.TheVariants.{Char, Rule}
use Rattle.lb_base.specs.declared.page.PageCode.{PageCode}

-- four bytes of a whole number, two bytes of one, and four bytes of a number with its sign, the high byte first
abbrev pub word : ℕ → List ℕ
word n = to_be_bytes w32 n

abbrev pub half : ℕ → List ℕ
half n = to_be_bytes w16 n

abbrev pub signed : ℤ → List ℕ
signed z = to_be_bytes w32 (cast_unsigned w32 z)

-- two digits, and four
abbrev pub two_digits : ℕ → List ℕ
two_digits n = (48 + n / 10 % 10) ∷ (48 + n % 10) ∷ []

abbrev pub four_digits : ℕ → List ℕ
four_digits n = two_digits (n / 100) ++ two_digits n

-- the unit of length is 25400000/473628672 of 1/10 micrometre, which is a scaled point, and pages are set at their size
abbrev pub unit : List ℕ
unit = word 25400000 ++ word 473628672 ++ word 1000

-- what the file says of itself: 27 bytes
abbrev pub comment : Moment → List ℕ
comment m = codes " TeX output " ++ four_digits m.year ++ 46 ∷ two_digits m.month ++ 46 ∷ two_digits m.day ++ 58 ∷ two_digits (m.minutes / 60) ++ two_digits (m.minutes % 60)

abbrev pub preamble : Moment → List ℕ
preamble m = 247 ∷ 2 ∷ unit ++ 27 ∷ comment m

-- the fewest bytes that hold a number with its sign: below 2^7, 2^15, 2^23 in size, or all four
abbrev pub size_bytes : ℕ → ℕ
size_bytes n = if nat_lt n 128 then 1 else if nat_lt n 32768 then 2 else if nat_lt n 8388608 then 3 else 4

abbrev pub fewest_bytes : ℤ → ℕ
fewest_bytes (pos n) = size_bytes n
fewest_bytes (negsuc n) = size_bytes n

abbrev pub is_zero : ℤ → Bool
is_zero (pos n) = n == 0
is_zero (negsuc n) = false

-- A move by a distance in as few bytes as hold it, where `first` is the command that takes one byte; none where it is 0.
abbrev pub move : ℕ → ℤ → List ℕ
move first distance = if is_zero distance then [] else (first + (fewest_bytes distance - 1)) ∷ drop (4 - fewest_bytes distance) (signed distance)

-- where the reader of a page stands, and its present font
pub record Pen : Type 0 where
  pub h : ℤ
  pub v : ℤ
  pub font : Option FontId

-- at the beginning of a page
abbrev pub pen_at_start : Pen
pen_at_start = record { h = pos 0; v = pos 0; font = None }

-- down, and then to the right
abbrev pub moves : Pen → ℤ → ℤ → List ℕ
moves pen h v = move 157 (v -ℤ pen.v) ++ move 143 (h -ℤ pen.h)

abbrev pub int_eq : ℤ → ℤ → Bool
int_eq (pos m) (pos n) = m == n
int_eq (negsuc m) (negsuc n) = m == n
int_eq (pos m) (negsuc n) = false
int_eq (negsuc m) (pos n) = false

abbrev pub same_font : FontId → FontId → Bool
same_font a b = pointwise nat_eq a.name b.name && (int_eq a.size b.size && (a.check == b.check && a.design == b.design))

abbrev pub is_defined : List FontId → FontId → Bool
is_defined fonts font = list_any (same_font font) fonts

-- the fonts in the order of their first use, after one more use
abbrev pub with_font : List FontId → FontId → List FontId
with_font fonts font = if is_defined fonts font then fonts else fonts ++ font ∷ []

-- A font's number is its place in the order of first use.
abbrev pub font_number : List FontId → FontId → ℕ
font_number fonts font = position_or_len (same_font font) fonts

abbrev pub font_definition : ℕ → FontId → List ℕ
font_definition number font = 243 ∷ number ∷ word font.check ++ signed font.size ++ word font.design ++ 0 ∷ length font.name ∷ font.name

-- a font is defined before its first use in the file, and selected where it is not the present one
abbrev pub is_present : Option FontId → FontId → Bool
is_present None font = false
is_present (Some present) font = same_font font present

abbrev pub font_change : List FontId → Option FontId → FontId → List ℕ
font_change fonts present font = if is_present present font then [] else (if is_defined fonts font then [] else font_definition (length fonts) font) ++ (171 + font_number fonts font) ∷ []

abbrev pub character : ℕ → List ℕ
character code = if nat_lt code 128 then code ∷ [] else 128 ∷ code ∷ []

-- a rule is shown where both its lengths are above 0
abbrev pub is_above_zero : ℤ → Bool
is_above_zero (pos n) = nat_lt 0 n
is_above_zero (negsuc n) = false

abbrev pub is_shown : ℤ → ℤ → Bool
is_shown height width = is_above_zero height && is_above_zero width

-- the bytes of one mark, after these fonts were used and from where the pen stands
abbrev pub mark_bytes : List FontId → Pen → Mark → List ℕ
mark_bytes fonts pen (Char h v font code width) = moves pen h v ++ font_change fonts pen.font font ++ character code
mark_bytes fonts pen (Rule h v height width) = if is_shown height width then moves pen h v ++ 137 ∷ signed height ++ signed width else []

-- A character moves the pen by its width, and a rule leaves it at the rule's corner.
abbrev pub pen_after : Pen → Mark → Pen
pen_after pen (Char h v font code width) = record { h = h +ℤ width; v = v; font = Some font }
pen_after pen (Rule h v height width) = if is_shown height width then record { h = h; v = v; font = pen.font } else pen

abbrev pub fonts_after : List FontId → Mark → List FontId
fonts_after fonts (Char h v font code width) = with_font fonts font
fonts_after fonts (Rule h v height width) = fonts

abbrev pub marks_bytes : List FontId → Pen → List Mark → List ℕ
marks_bytes fonts pen [] = []
marks_bytes fonts pen (mark ∷ marks) = mark_bytes fonts pen mark ++ marks_bytes (fonts_after fonts mark) (pen_after pen mark) marks

abbrev pub fonts_through : List FontId → List Mark → List FontId
fonts_through fonts [] = fonts
fonts_through fonts (mark ∷ marks) = fonts_through (fonts_after fonts mark) marks

-- A page: its number and nine more that are 0, the place of the page before it or -1, and its marks.
abbrev pub page_bytes : ℤ → List FontId → PageCode → List ℕ
page_bytes last fonts page = 139 ∷ signed page.number ++ replicate 36 0 ++ signed last ++ marks_bytes fonts pen_at_start page.marks ++ 140 ∷ []

-- What is known of a file after some pages: their number, where the file ends, where the last page begins or -1,
-- the fonts in the order of first use, and the largest height and width.
pub record Progress : Type 0 where
  pub pages : ℕ
  pub place : ℕ
  pub last : ℤ
  pub fonts : List FontId
  pub height : ℤ
  pub width : ℤ

-- after the preamble, which has 42 bytes
abbrev pub progress_at_start : Progress
progress_at_start = record { pages = 0; place = 42; last = negsuc 0; fonts = []; height = pos 0; width = pos 0 }

abbrev pub next_bytes : Progress → PageCode → List ℕ
next_bytes p page = page_bytes p.last p.fonts page

abbrev pub after_page : Progress → PageCode → Progress
after_page p page = record {
  pages = p.pages + 1;
  place = p.place + length (next_bytes p page);
  last = pos p.place;
  fonts = fonts_through p.fonts page.marks;
  height = int_max p.height page.height;
  width = int_max p.width page.width;
}

-- after these pages, the newest of them first
unfoldable pub progress : List PageCode → Progress
progress [] = progress_at_start
progress (page ∷ earlier) = after_page (progress earlier) page

-- the bytes of these pages one after another, the newest of them first in the list
unfoldable pub pages_bytes : List PageCode → List ℕ
pages_bytes [] = []
pages_bytes (page ∷ earlier) = pages_bytes earlier ++ next_bytes (progress earlier) page

abbrev pub definitions_from : ℕ → List FontId → List ℕ
definitions_from number [] = []
definitions_from number (font ∷ fonts) = font_definition number font ++ definitions_from (number + 1) fonts

-- where the last page is, the unit, the largest page, how deep the stack was (0), and how many pages there are; then all fonts
abbrev pub closing : Progress → List ℕ
closing p = 248 ∷ signed p.last ++ unit ++ signed p.height ++ signed p.width ++ half 0 ++ half p.pages ++ definitions_from 0 p.fonts

-- at least four bytes, so that the file's length is a multiple of four
abbrev pub padding : ℕ → List ℕ
padding n = replicate (7 - (n + 3) % 4) 223

-- then where all this begins, and the version
abbrev pub postamble : Progress → List ℕ
postamble p = closing p ++ 249 ∷ word p.place ++ 2 ∷ padding (p.place + length (closing p) + 6)

-- the whole file, of pages in the order of the document
abbrev pub dvi : Moment → List PageCode → List ℕ
dvi m pages = preamble m ++ pages_bytes (reverse pages) ++ postamble (progress (reverse pages))

-- below 2^30 in size
pub record IsSmall (z : ℤ) : Type 0 where
  pub low : negsuc 1073741822 ≤ℤ z
  pub high : z ≤ℤ pos 1073741823

abbrev pub is_small : ℤ → Bool
is_small z = int_le (negsuc 1073741822) z && int_le z (pos 1073741823)

-- what a mark of a page code has to be: its place is small, and so is the right end of a character; a font's name has at most 255 bytes
pub record IsSmallChar (h v width : ℤ) (font : FontId) : Type 0 where
  pub left : IsSmall h
  pub baseline : IsSmall v
  pub right : IsSmall (h +ℤ width)
  pub name : length font.name ≤ 255

pub record IsSmallRule (h v : ℤ) : Type 0 where
  pub left : IsSmall h
  pub lower : IsSmall v

abbrev pub IsSmallMark : Mark → Type 0
IsSmallMark (Char h v font code width) = IsSmallChar h v width font
IsSmallMark (Rule h v height width) = IsSmallRule h v

abbrev pub IsDrawable : PageCode → Type 0
IsDrawable page = AllByRecursion IsSmallMark page.marks

-- A file has at most 65535 pages and 60 fonts, and at most 2^30 bytes up to the end of its last page.
abbrev pub passes_limit : Progress → PageCode → Bool
passes_limit p page = nat_lt 65534 p.pages || (nat_lt 60 (length (after_page p page).fonts) || nat_lt 1073741824 (after_page p page).place)
