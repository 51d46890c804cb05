-- A DVI file of plain pages is far below each limit.
use Rattle.std.proofs.Common.{◌≡◌, ℕ, ◌<◌, ◌≤◌, false, List, [], ◌∷◌, length, ap, arith}
use Rattle.std.specs.Prelude.{nat_lt, ◌||◌}
use Rattle.std.specs.List.{AllByRecursion}
use Rattle.std.proofs.lemmas.Bool.Decides.{nat_tests}
use Rattle.lb_base.specs.declared.page.Mark.{Mark}
use Rattle.lb_base.specs.declared.page.Mark.TheVariants.{Char, Rule}
use Rattle.lb_base.specs.declared.page.PageCode.{PageCode}
use Rattle.lb_model_paper.specs.Dvi.{same_font, Progress, after_page, passes_limit}
use Rattle.lb_model_book.specs.PlainPages.{roman}
use Rattle.lb_dvi.specs.Fonts.{IsOfFont, AreOfFont}
use Rattle.lb_dvi.proofs.Bounds.{page_short, one_through, one_few}
use Rattle.lb_plain.specs.Marks.{IsRoman}
use Rattle.lb_run.specs.Parts.{IsPlainPage, IsPlainFile}

is_roman : (mark : Mark) → IsRoman mark → IsOfFont roman mark
is_roman (Char h v font code width) is = ap (λ f. same_font f roman) is
is_roman (Rule h v height width) is = absurd is

are_roman : (marks : List Mark) → AllByRecursion IsRoman marks → AreOfFont roman marks
are_roman [] all = tt
are_roman (mark ∷ marks) all = (is_roman mark all.0, are_roman marks all.1)

pub stays_plain : (p : Progress) (page : PageCode) → IsPlainFile p → IsPlainPage page → IsPlainFile (after_page p page)
stays_plain p page file plain = record {
  place = omega (arith, file.place, page_short p page plain.drawable, plain.marks);
  fonts = one_through roman p.fonts page.marks file.fonts (are_roman page.marks plain.font);
}

not_passed : (a b c : ℕ) → a < 1000 → b ≤ 1 → c ≤ 1073741824 → nat_lt 65534 a || (nat_lt 60 b || nat_lt 1073741824 c) ≡ false
not_passed a b c p q r = grind (arith, nat_tests)

pub within_limits : (p : Progress) (page : PageCode) → IsPlainFile p → IsPlainPage page → p.pages < 1000 → passes_limit p page ≡ false
within_limits p page file plain few =
    let after = stays_plain p page file plain in
    not_passed p.pages (length (after_page p page).fonts) (after_page p page).place few (one_few roman p.fonts page.marks file.fonts (are_roman page.marks plain.font)) (omega (arith, after.place))
