-- Fonts in the order of their first use.
use Rattle.std.proofs.Common.{◌≡◌, ℕ, suc, ℤ, pos, negsuc, ◌+◌, ◌<◌, ◌≤◌, Bool, true, false, ◌&&◌, ◌||◌, not, cond, ltb, List, [], ◌∷◌, ◌++◌, length, drop, drop-cons, add-one, get_or, arith, refl, sym, ap, ◌∙◌, Some, None, Option, true≢false, append_assoc, eq-eqb}
use Rattle.std.proofs.lemmas.Bool.{eqb-true, and_parts}
use Rattle.std.proofs.lemmas.Bool.Decides.{nat_tests}
use Rattle.std.proofs.lemmas.List.{length-append, append-nil}
use Rattle.std.proofs.lemmas.Cmp.{nat_list_eq_equiv}
use Rattle.std.proofs.lemmas.List.Sums.{prefix_len-le-length, position_or_len_is}
use Rattle.std.specs.List.{list_any, position_or_len}
use Rattle.std.specs.Cmp.Lexicographic.{same_text}
use Rattle.lb_base.specs.declared.page.FontId.{FontId}
use Rattle.lb_model_paper.specs.Dvi.{int_eq, same_font, is_present, is_defined, font_number, with_font, font_definition, definitions_from}
use Rattle.lb_dvi.specs.Fonts.{IsKnown}

-- ---- two fonts that are the same

int_eq-true : (a b : ℤ) → int_eq a b ≡ true → a ≡ b
int_eq-true (pos m) (pos n) h = ap pos (eqb-true m n h)
int_eq-true (negsuc m) (negsuc n) h = ap negsuc (eqb-true m n h)
int_eq-true (pos m) (negsuc n) h = absurd (true≢false (sym h))
int_eq-true (negsuc m) (pos n) h = absurd (true≢false (sym h))

font_of : (n m : List ℕ) (s t : ℤ) (c e d g : ℕ) → n ≡ m → s ≡ t → c ≡ e → d ≡ g
    → ◌≡◌ {A = FontId} (record { name = n; size = s; check = c; design = d }) (record { name = m; size = t; check = e; design = g })
font_of n m s t c e d g p q r u = cc

pub same_font-true : (a b : FontId) → same_font a b ≡ true → a ≡ b
same_font-true a b h =
    let name = and_parts _ _ h in
    let size = and_parts _ _ name.1 in
    let rest = and_parts _ _ size.1 in
    font_of a.name b.name a.size b.size a.check b.check a.design b.design
    (same_text a.name b.name (sym name.0)) (int_eq-true a.size b.size size.0) (eqb-true a.check b.check rest.0) (eqb-true a.design b.design rest.1)

int_eq-refl : (a : ℤ) → int_eq a a ≡ true
int_eq-refl (pos m) = eq-eqb m m refl
int_eq-refl (negsuc m) = eq-eqb m m refl

all_true : (a b c d : Bool) → a ≡ true → b ≡ true → c ≡ true → d ≡ true → (a && (b && (c && d))) ≡ true
all_true a b c d p q r u = rw (p, q, r, u) refl

pub same_font-refl : (a : FontId) → same_font a a ≡ true
same_font-refl a = all_true _ _ _ _ (nat_list_eq_equiv.refl a.name) (int_eq-refl a.size) (eq-eqb a.check a.check refl) (eq-eqb a.design a.design refl)

-- ---- a font's number

below_true : (m n : ℕ) → m < n → ltb m n ≡ true
below_true m n h = grind (arith, nat_tests)

below_false : (m n : ℕ) → n ≤ m → ltb m n ≡ false
below_false m n h = grind (arith, nat_tests)

any_by_place-step : (t any : Bool) (place long : ℕ) → any ≡ ltb place long → (t || any) ≡ ltb (cond (not t) (1 + place) 0) (suc long)
any_by_place-step true any place long h = grind (arith, nat_tests)
any_by_place-step false any place long h = grind (arith, nat_tests)

any_by_place : (p : FontId → Bool) (fonts : List FontId) → list_any p fonts ≡ ltb (position_or_len p fonts) (length fonts)
any_by_place p [] = refl
any_by_place p (x ∷ xs) = any_by_place-step (p x) (list_any p xs) (position_or_len p xs) (length xs) (any_by_place p xs)

pub number_within : (fonts : List FontId) (font : FontId) → font_number fonts font ≤ length fonts
number_within fonts font = prefix_len-le-length (λ x. not (same_font font x)) fonts

pub defined-true : (fonts : List FontId) (font : FontId) → font_number fonts font < length fonts → is_defined fonts font ≡ true
defined-true fonts font h = any_by_place (same_font font) fonts ∙ below_true (font_number fonts font) (length fonts) h

pub defined-false : (fonts : List FontId) (font : FontId) → length fonts ≤ font_number fonts font → is_defined fonts font ≡ false
defined-false fonts font h = any_by_place (same_font font) fonts ∙ below_false (font_number fonts font) (length fonts) h

-- ---- the definition of a font and the present font

pub defined-none : (o d : List ℕ) (defined : Bool) → defined ≡ true → o ≡ o ++ cond defined [] d
defined-none o d defined h = rw h (sym (append-nil o))

pub defined-one : (o d x : List ℕ) (defined : Bool) → defined ≡ false → x ≡ o ++ d → x ≡ o ++ cond defined [] d
defined-one o d x defined h e = rw h e

pub with-there : (fonts : List FontId) (font : FontId) → is_defined fonts font ≡ true → fonts ≡ with_font fonts font
with-there fonts font h = rw h refl

pub with-new : (fonts : List FontId) (font : FontId) → is_defined fonts font ≡ false → fonts ++ font ∷ [] ≡ with_font fonts font
with-new fonts font h = rw h refl

pub with-long : (fonts : List FontId) (font : FontId) → is_defined fonts font ≡ false → 60 ≤ length fonts → 60 < length (with_font fonts font)
with-long fonts font h long = rw h (omega (arith, length-append fonts (font ∷ [])))

pub present-known : (fonts : List FontId) (present : Option FontId) (font : FontId) → IsKnown fonts present → is_present present font ≡ true → is_defined fonts font ≡ true
present-known fonts None font k h = absurd (true≢false (sym h))
present-known fonts (Some present) font k h =
    let same : font ≡ present = same_font-true font present h in
    rw same k

or-right : (s t : Bool) → t ≡ true → (s || t) ≡ true
or-right true t h = refl
or-right false t h = h

any_last : (p : FontId → Bool) (fonts : List FontId) (font : FontId) → p font ≡ true → list_any p (fonts ++ font ∷ []) ≡ true
any_last p [] font h = rw h refl
any_last p (x ∷ xs) font h = or-right (p x) (list_any p (xs ++ font ∷ [])) (any_last p xs font h)

known_in : (b : Bool) (fonts : List FontId) (font : FontId) → is_defined fonts font ≡ b → is_defined (cond b fonts (fonts ++ font ∷ [])) font ≡ true
known_in true fonts font h = h
known_in false fonts font h = any_last (same_font font) fonts font (same_font-refl font)

pub known-after : (fonts : List FontId) (font : FontId) → is_defined (with_font fonts font) font ≡ true
known-after fonts font = known_in (is_defined fonts font) fonts font refl

-- ---- the search for a font

pub number_is : (fonts : List FontId) (font : FontId) (i : ℕ) (d : FontId) → ((k : ℕ) (e : FontId) → k < i → same_font font (get_or fonts k e) ≡ false)
    → i < length fonts → same_font font (get_or fonts i d) ≡ true → i ≡ font_number fonts font
number_is fonts font i d before lt here =
    let within : i ≤ length fonts = omega arith in
    sym (position_or_len_is (same_font font) fonts i d within (λ k h. before k d h) (λ _. here))

pub number_none : (fonts : List FontId) (font : FontId) (i : ℕ) → i ≡ length fonts → ((k : ℕ) (e : FontId) → k < i → same_font font (get_or fonts k e) ≡ false)
    → length fonts ≡ font_number fonts font
number_none [] font i all before = refl
number_none (x ∷ xs) font i all before =
    let within : i ≤ length (x ∷ xs) = omega arith in
    sym all ∙ sym (position_or_len_is (same_font font) (x ∷ xs) i x within (λ k h. before k x h) (λ h. absurd (omega arith)))

pub is_number : (seen fonts : List FontId) (font : FontId) (number : ℕ) → seen ≡ fonts → number ≡ font_number seen font → number ≡ font_number fonts font
is_number seen fonts font number e h = rw (← e) h

-- ---- the definitions of all fonts

pub definitions-step : (start out out' : List ℕ) (fonts : List FontId) (i : ℕ) (font d : FontId) → i < length fonts → font ≡ get_or fonts i d
    → out ++ definitions_from i (drop i fonts) ≡ start → out' ≡ out ++ font_definition i font
    → out' ++ definitions_from (i + 1) (drop (i + 1) fonts) ≡ start
definitions-step start out out' fonts i font d lt here h e =
    let cut : drop i fonts ≡ font ∷ drop (i + 1) fonts = rw (here, add-one) (drop-cons fonts i d lt) in
    let whole = rw cut at h in
    rw e (append_assoc out (font_definition i font) (definitions_from (i + 1) (drop (i + 1) fonts)) ∙ whole)
