-- How many bytes a page has at most, and which fonts.
use Rattle.std.proofs.Common.{◌≡◌, ℕ, ℤ, ◌+◌, ◌*◌, ◌-◌, ◌-ℤ◌, ◌≤◌, Bool, true, false, cond, nat_lt, List, [], ◌∷◌, ◌++◌, length, drop, arith, refl, ap, Option, inl, inr}
use Rattle.std.proofs.lemmas.List.{length-append, length-drop}
use Rattle.std.specs.List.{AllByRecursion}
use Rattle.lb_base.specs.declared.page.FontId.{FontId}
use Rattle.lb_base.specs.declared.page.Mark.{Mark}
use Rattle.lb_base.specs.declared.page.Mark.TheVariants.{Char, Rule}
use Rattle.lb_base.specs.declared.page.PageCode.{PageCode}
use Rattle.lb_model_paper.specs.Dvi.{Pen, Progress, IsSmallMark, IsDrawable, character, fewest_bytes, font_change, font_definition, font_number, fonts_after, fonts_through, is_defined, is_present, is_shown, is_zero, mark_bytes, marks_bytes, move, moves, next_bytes, pen_after, pen_at_start, same_font, signed, with_font}
use Rattle.lb_dvi.specs.Fonts.{AreOfFont, IsAtMostFont}
use Rattle.lb_dvi.proofs.Fonts.{same_font-true}

-- ---- the bytes of a page

none_or : (b : Bool) (xs : List ℕ) (n : ℕ) → length xs ≤ n → length (cond b [] xs) ≤ n
none_or true xs n h = omega arith
none_or false xs n h = h

or_none : (b : Bool) (xs : List ℕ) (n : ℕ) → length xs ≤ n → length (cond b xs []) ≤ n
or_none true xs n h = h
or_none false xs n h = omega arith

either_short : (b : Bool) (xs ys : List ℕ) (n : ℕ) → length xs ≤ n → length ys ≤ n → length (cond b xs ys) ≤ n
either_short true xs ys n h k = h
either_short false xs ys n h k = k

joined : (xs ys : List ℕ) (m n : ℕ) → length xs ≤ m → length ys ≤ n → length (xs ++ ys) ≤ m + n
joined xs ys m n a b = omega (arith, length-append xs ys)

tail_short : (first k : ℕ) (xs : List ℕ) → length xs ≤ 4 → length (first ∷ drop k xs) ≤ 5
tail_short first k xs h = omega (arith, length-drop k xs)

move_short : (first : ℕ) (d : ℤ) → length (move first d) ≤ 5
move_short first d =
    let four : length (signed d) ≤ 4 = omega arith in
    none_or (is_zero d) ((first + (fewest_bytes d - 1)) ∷ drop (4 - fewest_bytes d) (signed d)) 5 (tail_short (first + (fewest_bytes d - 1)) (4 - fewest_bytes d) (signed d) four)

moves_short : (pen : Pen) (h v : ℤ) → length (moves pen h v) ≤ 10
moves_short pen h v = joined (move 157 (v -ℤ pen.v)) (move 143 (h -ℤ pen.h)) 5 5 (move_short 157 (v -ℤ pen.v)) (move_short 143 (h -ℤ pen.h))

definition_short : (number : ℕ) (font : FontId) → length font.name ≤ 255 → length (font_definition number font) ≤ 271
definition_short number font h = omega arith

change_short : (fonts : List FontId) (present : Option FontId) (font : FontId) → length font.name ≤ 255 → length (font_change fonts present font) ≤ 272
change_short fonts present font h =
    none_or (is_present present font) _ 272
    (joined _ ((171 + font_number fonts font) ∷ []) 271 1 (none_or (is_defined fonts font) (font_definition (length fonts) font) 271 (definition_short (length fonts) font h)) (omega arith))

character_short : (code : ℕ) → length (character code) ≤ 2
character_short code = either_short (nat_lt code 128) (code ∷ []) (128 ∷ code ∷ []) 2 (omega arith) (omega arith)

mark_short : (fonts : List FontId) (pen : Pen) (mark : Mark) → IsSmallMark mark → length (mark_bytes fonts pen mark) ≤ 300
mark_short fonts pen (Char h v font code width) s =
    let front : length (moves pen h v ++ font_change fonts pen.font font) ≤ 282 =
    joined (moves pen h v) (font_change fonts pen.font font) 10 272 (moves_short pen h v) (change_short fonts pen.font font s.name) in
    let all : length ((moves pen h v ++ font_change fonts pen.font font) ++ character code) ≤ 284 =
    joined (moves pen h v ++ font_change fonts pen.font font) (character code) 282 2 front (character_short code) in
    omega (arith, all)
mark_short fonts pen (Rule h v height width) s =
    let front : length (moves pen h v ++ 137 ∷ signed height) ≤ 15 = joined (moves pen h v) (137 ∷ signed height) 10 5 (moves_short pen h v) (omega arith) in
    let all : length ((moves pen h v ++ 137 ∷ signed height) ++ signed width) ≤ 19 =
    joined (moves pen h v ++ 137 ∷ signed height) (signed width) 15 4 front (omega arith) in
    or_none (is_shown height width) ((moves pen h v ++ 137 ∷ signed height) ++ signed width) 300 (omega (arith, all))

marks_short : (fonts : List FontId) (pen : Pen) (marks : List Mark) → AllByRecursion IsSmallMark marks → length (marks_bytes fonts pen marks) ≤ 300 * length marks
marks_short fonts pen [] s = omega arith
marks_short fonts pen (mark ∷ marks) s =
    let here : length (mark_bytes fonts pen mark) ≤ 300 = mark_short fonts pen mark s.0 in
    let rest : length (marks_bytes (fonts_after fonts mark) (pen_after pen mark) marks) ≤ 300 * length marks = marks_short (fonts_after fonts mark) (pen_after pen mark) marks s.1 in
    omega (arith, joined (mark_bytes fonts pen mark) (marks_bytes (fonts_after fonts mark) (pen_after pen mark) marks) 300 (300 * length marks) here rest)

pub page_short : (p : Progress) (page : PageCode) → IsDrawable page → length (next_bytes p page) ≤ 46 + 300 * length page.marks
page_short p page s =
    let marks : length (marks_bytes p.fonts pen_at_start page.marks) ≤ 300 * length page.marks = marks_short p.fonts pen_at_start page.marks s in
    omega (arith, length-append (marks_bytes p.fonts pen_at_start page.marks) (140 ∷ []))

-- ---- one font

one_more : (font : FontId) (fonts : List FontId) (used : FontId) → IsAtMostFont font fonts → same_font used font ≡ true → IsAtMostFont font (with_font fonts used)
one_more font fonts used (inl e) h =
    let same : used ≡ font = same_font-true used font h in
    rw e (inr (ap (λ (u : FontId). u ∷ []) same))
one_more font fonts used (inr e) h = rw (e, h) (inr refl)

pub one_through : (font : FontId) (fonts : List FontId) (marks : List Mark) → IsAtMostFont font fonts → AreOfFont font marks → IsAtMostFont font (fonts_through fonts marks)
one_through font fonts [] h s = h
one_through font fonts (Char a b used code width ∷ marks) h s = one_through font (with_font fonts used) marks (one_more font fonts used h s.0) s.1
one_through font fonts (Rule a b height width ∷ marks) h s = one_through font fonts marks h s.1

at_most_one : (font : FontId) (fonts : List FontId) → IsAtMostFont font fonts → length fonts ≤ 1
at_most_one font fonts (inl e) = omega (arith, ap length e)
at_most_one font fonts (inr e) = omega (arith, ap length e)

pub one_few : (font : FontId) (fonts : List FontId) (marks : List Mark) → IsAtMostFont font fonts → AreOfFont font marks → length (fonts_through fonts marks) ≤ 1
one_few font fonts marks h s = at_most_one font (fonts_through fonts marks) (one_through font fonts marks h s)
