-- What is known of a file after one more page.
use Rattle.std.proofs.Common.{◌≡◌, ℕ, ℤ, ◌+◌, ◌<◌, ◌≤◌, true, false, ◌||◌, nat_lt, List, length, arith}
use Rattle.std.proofs.lemmas.Bool.Decides.{nat_tests}
use Rattle.lb_base.specs.declared.page.FontId.{FontId}
use Rattle.lb_base.specs.declared.page.PageCode.{PageCode}
use Rattle.lb_model_paper.specs.Dvi.{Progress, fonts_through, next_bytes, passes_limit}

pub progress-same : (pages place place' : ℕ) (last last' : ℤ) (fonts fonts' : List FontId) (height height' width width' : ℤ)
    → place ≡ place' → last ≡ last' → fonts ≡ fonts' → height ≡ height' → width ≡ width'
    → ◌≡◌ {A = Progress} (record { pages = pages; place = place; last = last; fonts = fonts; height = height; width = width }) (record { pages = pages; place = place'; last = last'; fonts = fonts'; height = height'; width = width' })
progress-same pages place place' last last' fonts fonts' height height' width width' a b c d e = cc

within-limits : (a b c : ℕ) → a < 65535 → b ≤ 60 → c ≤ 1073741824 → (nat_lt 65534 a || (nat_lt 60 b || nat_lt 1073741824 c)) ≡ true → false ≡ true
within-limits a b c p q r h = grind (arith, nat_tests)

pub passes-none : (p : Progress) (page : PageCode) → p.pages < 65535 → length (fonts_through p.fonts page.marks) ≤ 60 → p.place + length (next_bytes p page) ≤ 1073741824
    → passes_limit p page ≡ true → false ≡ true
passes-none p page a b c h = within-limits p.pages (length (fonts_through p.fonts page.marks)) (p.place + length (next_bytes p page)) a b c h
