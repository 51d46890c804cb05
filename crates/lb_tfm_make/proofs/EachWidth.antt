-- The distinct widths of a description are those of its rows, each once.
use Rattle.std.proofs.Common.{◌≡◌, ◌≢◌, ℕ, ◌+◌, ◌<◌, ◌≤◌, Bool, true, false, cond, List, [], ◌∷◌, ◌++◌, length, get_or, arith, refl, ap, ◌∙◌, sym, ℤ, pos, length-append}
use Prim.Native.Nat.{zero, suc}
use Rattle.std.specs.Prelude.{◌||◌, nat_lt}
use Rattle.std.specs.List.{list_any}
use Rattle.std.proofs.lemmas.List.{get_or-append-add, get_or_append_left}
use Rattle.lb_model_paper.specs.Dvi.{int_eq}
use Rattle.lb_tfm_make.specs.declared.spec.CharWidth.{CharWidth}
use Rattle.lb_tfm_make.specs.FontBytes.{distinct_widths, widths_through, with_width}
use Rattle.lb_tfm_make.proofs.DistinctWidths.{int_same, int_self}
use Rattle.lb_tfm_make.proofs.Tests.{is-above, is-not-above}

-- ---- a width is among them exactly where a row has it

or-assoc : (a b c : Bool) → ((a || b) || c) ≡ (a || (b || c))
or-assoc true b c = refl
or-assoc false b c = refl

any-push : (p : ℤ → Bool) (xs : List ℤ) (y : ℤ) → list_any p (xs ++ y ∷ []) ≡ (list_any p xs || p y)
any-push p [] y = elim (p y) as (λ (b : Bool). (b || false) ≡ b) [ true ↦ refl | false ↦ refl ]
any-push p (x ∷ xs) y = ap (λ (b : Bool). p x || b) (any-push p xs y) ∙ sym (or-assoc (p x) (list_any p xs) (p y))

has-it : (a b : Bool) → (b ≡ true → a ≡ true) → a ≡ (a || b)
has-it true b h = refl
has-it false true h = h refl
has-it false false h = refl

with-any-cases : (b : Bool) (width x : ℤ) (widths : List ℤ) → list_any (int_eq x) widths ≡ b → list_any (int_eq width) (cond b widths (widths ++ x ∷ [])) ≡ (list_any (int_eq width) widths || int_eq width x)
with-any-cases true width x widths is = has-it (list_any (int_eq width) widths) (int_eq width x) (λ e. ap (λ z. list_any (int_eq z) widths) (int_same width x e) ∙ is)
with-any-cases false width x widths is = any-push (int_eq width) widths x

through-any : (width : ℤ) (widths : List ℤ) (rows : List CharWidth) → list_any (int_eq width) (widths_through widths rows) ≡ (list_any (int_eq width) widths || list_any (λ (row : CharWidth). int_eq width row.width) rows)
unfolding widths_through
through-any width widths [] = elim (list_any (int_eq width) widths) as (λ (b : Bool). b ≡ (b || false)) [ true ↦ refl | false ↦ refl ]
through-any width widths (row ∷ rows) =
    through-any width (with_width widths row.width) rows
    ∙ ap (λ (b : Bool). b || list_any (λ (r : CharWidth). int_eq width r.width) rows) (with-any-cases (list_any (int_eq row.width) widths) width row.width widths refl)
    ∙ or-assoc (list_any (int_eq width) widths) (int_eq width row.width) (list_any (λ (r : CharWidth). int_eq width r.width) rows)

pub width-any : (rows : List CharWidth) (width : ℤ) → list_any (int_eq width) (distinct_widths rows) ≡ list_any (λ (row : CharWidth). int_eq width row.width) rows
width-any rows width = through-any width [] rows

-- ---- no two of them are equal

abbrev AreApart : List ℤ → Type 0
AreApart widths = (j k : ℕ) → j < k → k < length widths → get_or widths j (pos 0) ≢ get_or widths k (pos 0)

any-at : (p : ℤ → Bool) (xs : List ℤ) (k : ℕ) → k < length xs → p (get_or xs k (pos 0)) ≡ true → list_any p xs ≡ true
any-at p [] k low h = absurd (omega arith)
any-at p (x ∷ xs) zero low h = ap (λ (b : Bool). b || list_any p xs) h
any-at p (x ∷ xs) (suc k) low h = let lt : k < length xs = omega arith in ap (λ (b : Bool). p x || b) (any-at p xs k lt h) ∙ elim (p x) as (λ (b : Bool). (b || true) ≡ true) [ true ↦ refl | false ↦ refl ]

push-cases : (b : Bool) (widths : List ℤ) (x : ℤ) (j k : ℕ) → nat_lt k (length widths) ≡ b → AreApart widths → list_any (int_eq x) widths ≡ false → j < k → k < length (widths ++ x ∷ [])
    → get_or (widths ++ x ∷ []) j (pos 0) ≢ get_or (widths ++ x ∷ []) k (pos 0)
push-cases true widths x j k is apart new less low = λ e.
    let within : k < length widths = is-above k (length widths) is in
    let before : j < length widths = omega arith in
    apart j k less within (sym (get_or_append_left widths (x ∷ []) (pos 0) j before) ∙ e ∙ get_or_append_left widths (x ∷ []) (pos 0) k within)
push-cases false widths x j k is apart new less low = λ e.
    let from : length widths ≤ k = is-not-above k (length widths) is in
    let last : k ≡ length widths + 0 = omega (arith, length-append widths (x ∷ [])) in
    let before : j < length widths = omega (arith, length-append widths (x ∷ [])) in
    let same : get_or widths j (pos 0) ≡ x =
    sym (get_or_append_left widths (x ∷ []) (pos 0) j before) ∙ e ∙ ap (λ n. get_or (widths ++ x ∷ []) n (pos 0)) last ∙ get_or-append-add widths (x ∷ []) 0 (pos 0) in
    let there : list_any (int_eq x) widths ≡ true = any-at (int_eq x) widths j before (ap (int_eq x) same ∙ int_self x) in
    cc

with-apart : (b : Bool) (widths : List ℤ) (x : ℤ) → list_any (int_eq x) widths ≡ b → AreApart widths → AreApart (cond b widths (widths ++ x ∷ []))
with-apart true widths x is apart = apart
with-apart false widths x is apart = λ j k less low. push-cases (nat_lt k (length widths)) widths x j k refl apart is less low

through-apart : (widths : List ℤ) (rows : List CharWidth) → AreApart widths → AreApart (widths_through widths rows)
unfolding widths_through
through-apart widths [] apart = apart
through-apart widths (row ∷ rows) apart = through-apart (with_width widths row.width) rows (with-apart (list_any (int_eq row.width) widths) widths row.width refl apart)

pub widths-apart : (rows : List CharWidth) (j k : ℕ) → j < k → k < length (distinct_widths rows) → get_or (distinct_widths rows) j (pos 0) ≢ get_or (distinct_widths rows) k (pos 0)
widths-apart rows = through-apart [] rows (λ j k less low. absurd (omega arith))
