-- The marks of a page, one after another.
use Rattle.std.proofs.Common.{◌≡◌, ℕ, ◌+◌, ◌<◌, ◌≤◌, Bool, true, false, List, [], ◌∷◌, ◌++◌, length, drop, get_or, arith, ap, add-one, drop-cons, cond}
use Rattle.std.proofs.lemmas.List.{length_push}
use Rattle.lb_base.specs.declared.page.FontId.{FontId}
use Rattle.lb_base.specs.declared.page.Mark.{Mark}
use Rattle.lb_base.specs.declared.page.Mark.TheVariants.{Char, Rule}
use Rattle.lb_model_paper.specs.Dvi.{Pen, is_defined, fonts_after, fonts_through, marks_bytes}
use Rattle.lb_dvi.specs.Fonts.{AreUsable, Extends, IsKnown}

if_longer : (b : Bool) (fonts : List FontId) (font : FontId) → length fonts ≤ length (cond b fonts (fonts ++ font ∷ []))
if_longer true fonts font = omega arith
if_longer false fonts font = omega (arith, length_push fonts font)

-- a mark takes no font away, and neither do several
after_longer : (fonts : List FontId) (mark : Mark) → length fonts ≤ length (fonts_after fonts mark)
after_longer fonts (Char h v font code width) = if_longer (is_defined fonts font) fonts font
after_longer fonts (Rule h v height width) = omega arith

pub through_longer : (fonts : List FontId) (marks : List Mark) → length fonts ≤ length (fonts_through fonts marks)
through_longer fonts [] = omega arith
through_longer fonts (mark ∷ marks) = omega (arith, after_longer fonts mark, through_longer (fonts_after fonts mark) marks)

-- what the loop over the marks keeps: what is written and what is left make up the whole
pub record Drawing (marks : List Mark) (start : List ℕ) (first : List FontId) (began : Pen) (i : ℕ) (out : List ℕ) (fonts : List FontId) (pen : Pen) : Type 0 where
  pub bytes : out ++ marks_bytes fonts pen (drop i marks) ≡ start ++ marks_bytes first began marks
  pub through : fonts_through fonts (drop i marks) ≡ fonts_through first marks
  pub usable : AreUsable fonts
  pub extends : Extends first fonts
  pub known : IsKnown fonts pen.font

-- a mark that passes the limit lets all the marks pass it
pub drawing-over : (marks : List Mark) (start : List ℕ) (first : List FontId) (began : Pen) (i : ℕ) (out : List ℕ) (fonts : List FontId) (pen : Pen) (mark d : Mark)
    → Drawing marks start first began i out fonts pen → i < length marks → mark ≡ get_or marks i d
    → 60 < length (fonts_after fonts mark) → 60 < length (fonts_through first marks)
drawing-over marks start first began i out fonts pen mark d h lt e over =
    let cut : drop i marks ≡ mark ∷ drop (i + 1) marks = rw (e, add-one) (drop-cons marks i d lt) in
    let through = rw cut at h.through in
    omega (arith, ap length through, through_longer (fonts_after fonts mark) (drop (i + 1) marks))
