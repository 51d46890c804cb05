-- The distinct widths of a description.
use Rattle.std.proofs.Common.{◌≡◌, ℕ, ◌+◌, ◌<◌, ◌≤◌, Bool, true, false, cond, List, [], ◌∷◌, ◌++◌, length, get_or, drop, arith, refl, ap, ◌∙◌, sym, Option, Some, ℤ, pos, negsuc}
use Rattle.std.specs.Prelude.{◌==◌, ◌||◌, not}
use Rattle.std.specs.List.{list_any, position_or_len}
use Rattle.std.proofs.lemmas.Bool.Decides.{nat_tests}
use Rattle.std.proofs.lemmas.List.{at_drop_more, at_drop_all}
use Rattle.lb_model_paper.specs.Dvi.{int_eq}
use Rattle.lb_tfm_make.specs.declared.spec.CharWidth.{CharWidth}
use Rattle.lb_tfm_make.specs.FontBytes.{distinct_widths, width_index, widths_through, with_width}
use Rattle.lb_tfm_make.specs.FontSpecs.{has_code, row_of}

nat_self : (m : ℕ) → (m == m) ≡ true
nat_self m = grind (arith, nat_tests)

nat_same : (m n : ℕ) → (m == n) ≡ true → m ≡ n
nat_same m n h = grind (arith, nat_tests)

pub int_self : (x : ℤ) → int_eq x x ≡ true
int_self (pos m) = nat_self m
int_self (negsuc m) = nat_self m

pub int_same : (x y : ℤ) → int_eq x y ≡ true → x ≡ y
int_same (pos m) (pos n) h = ap pos (nat_same m n h)
int_same (negsuc m) (negsuc n) h = ap negsuc (nat_same m n h)
int_same (pos m) (negsuc n) h = absurd cc
int_same (negsuc m) (pos n) h = absurd cc

any-left : (p : ℤ → Bool) (xs ys : List ℤ) → list_any p xs ≡ true → list_any p (xs ++ ys) ≡ true
any-left p [] ys h = absurd cc
any-left p (x ∷ xs) ys h = elim (p x) as (λ (b : Bool). (b || list_any p xs) ≡ true → (b || list_any p (xs ++ ys)) ≡ true) [ true ↦ (λ g. refl) | false ↦ (λ g. any-left p xs ys g) ] h

any-last : (p : ℤ → Bool) (xs : List ℤ) (y : ℤ) → p y ≡ true → list_any p (xs ++ y ∷ []) ≡ true
any-last p [] y h = rw h refl
any-last p (x ∷ xs) y h = elim (p x) as (λ (b : Bool). (b || list_any p (xs ++ y ∷ [])) ≡ true) [ true ↦ refl | false ↦ any-last p xs y h ]

-- a width that is there stays
with-keeps : (p : ℤ → Bool) (widths : List ℤ) (width : ℤ) → list_any p widths ≡ true → list_any p (with_width widths width) ≡ true
with-keeps p widths width h =
    elim (list_any (int_eq width) widths) as (λ (b : Bool). list_any p (cond b widths (widths ++ width ∷ [])) ≡ true) [ true ↦ h | false ↦ any-left p widths (width ∷ []) h ]

-- and one that is put there is there
has-after : (b : Bool) (widths : List ℤ) (width : ℤ) → list_any (int_eq width) widths ≡ b → list_any (int_eq width) (cond b widths (widths ++ width ∷ [])) ≡ true
has-after true widths width h = h
has-after false widths width h = any-last (int_eq width) widths width (int_self width)

with-has : (widths : List ℤ) (width : ℤ) → list_any (int_eq width) (with_width widths width) ≡ true
with-has widths width = has-after (list_any (int_eq width) widths) widths width refl

through-keeps : (p : ℤ → Bool) (widths : List ℤ) (rows : List CharWidth) → list_any p widths ≡ true → list_any p (widths_through widths rows) ≡ true
unfolding widths_through
through-keeps p widths [] h = h
through-keeps p widths (row ∷ rows) h = through-keeps p (with_width widths row.width) rows (with-keeps p widths row.width h)

has-cases : (b : Bool) (widths : List ℤ) (first row : CharWidth) (rows : List CharWidth) (found : Option CharWidth)
    → (found ≡ Some row → list_any (int_eq row.width) (widths_through (with_width widths first.width) rows) ≡ true)
    → cond b (Some first) found ≡ Some row → list_any (int_eq row.width) (widths_through (with_width widths first.width) rows) ≡ true
has-cases true widths first row rows found later h =
    let e : first ≡ row = cc in
    through-keeps (int_eq row.width) (with_width widths first.width) rows
    (ap (λ (r : CharWidth). list_any (int_eq row.width) (with_width widths r.width)) e ∙ with-has widths row.width)
has-cases false widths first row rows found later h = later h

through-has : (widths : List ℤ) (rows : List CharWidth) (code : ℕ) (row : CharWidth) → row_of rows code ≡ Some row → list_any (int_eq row.width) (widths_through widths rows) ≡ true
unfolding widths_through
through-has widths [] code row h = absurd cc
through-has widths (first ∷ rows) code row h =
    has-cases (has_code code first) widths first row rows (row_of rows code) (through-has (with_width widths first.width) rows code row) h

pub width-among : (rows : List CharWidth) (code : ℕ) (row : CharWidth) → row_of rows code ≡ Some row → list_any (int_eq row.width) (distinct_widths rows) ≡ true
width-among rows code row h = through-has [] rows code row h

-- ---- the loops

pub through-turn : (widths : List ℤ) (rows : List CharWidth) (i : ℕ) (d : CharWidth) → i < length rows → widths_through widths (drop i rows) ≡ widths_through (with_width widths (get_or rows i d).width) (drop (i + 1) rows)
unfolding widths_through
through-turn widths rows i d lt = at_drop_more (widths_through widths) rows i d lt

pub through-end : (widths : List ℤ) (rows : List CharWidth) (i : ℕ) → length rows ≤ i → widths_through widths (drop i rows) ≡ widths
unfolding widths_through
through-end widths rows i h = at_drop_all (widths_through widths) rows i h

-- the first place with this width
pub place-here : (widths : List ℤ) (width : ℤ) (i : ℕ) (d : ℤ) → i < length widths → width ≡ get_or widths i d → i + position_or_len (int_eq width) (drop i widths) ≡ position_or_len (int_eq width) widths → i + 1 ≡ width_index widths width
unfolding width_index
place-here widths width i d lt is h =
    let first : position_or_len (int_eq width) (drop i widths) ≡ 0 =
    at_drop_more (position_or_len (int_eq width)) widths i d lt
    ∙ ap (λ (b : Bool). cond (not b) (1 + position_or_len (int_eq width) (drop (i + 1) widths)) 0) (ap (int_eq width) (sym is) ∙ int_self width) in
    omega arith
