-- The lines of commands with groups are read.
use Rattle.std.proofs.Common.{◌≡◌, ◌∙◌, ◌++◌, Bool, true, false, ℕ, List, [], ◌∷◌, Some, None, refl, ap, sym, append_assoc, append-nil, take, drop, length}
use Rattle.std.specs.Prelude.{◌==◌, ◌&&◌, ◌-◌, nat_eq, not, map, if◌then◌else◌}
use Rattle.std.specs.Cmp.Lexicographic.{pointwise}
use Rattle.std.specs.List.{ends_with, list_all}
use Rattle.std.specs.Option.{option_and_then}
use Rattle.std.proofs.lemmas.Bool.{eq-eqb, eqb-true}
use Rattle.std.proofs.lemmas.List.{take-append-drop}
use Rattle.lb_model.specs.Lines.{cut_at_feeds}
use Rattle.lb_model_paper.specs.Texts.{line}
use Rattle.lb_model_aux.specs.Forms.{alone, pair_before, pair_of, two_groups, without_ending}
use Rattle.lb_model_aux.specs.Groups.{AreGroups, IsBalanced, group_of}
use Rattle.lb_model_aux.specs.Reading.{lines_of}
use Rattle.lb_model_journal.specs.Written.{braced}
use Rattle.lb_model_aux.proofs.GroupReading.{both, group-read, groups-read, not-true}

-- ---- Groups

pub last-group : {inner : List ℕ} → IsBalanced inner → group_of (braced inner) ≡ Some (inner, [])
last-group {inner} b = ap group_of (sym (append-nil (braced inner))) ∙ group-read [] b

pub two-read : {first second : List ℕ} → IsBalanced first → IsBalanced second → two_groups (braced first ++ braced second) ≡ Some (first, second)
two-read {first} {second} a b =
    ap (option_and_then (λ g. option_and_then (λ h. alone (g.0, h.0) h.1) (group_of g.1))) (group-read (braced second) a)
    ∙ ap (option_and_then (λ h. alone (first, h.0) h.1)) (last-group b)

pub pair-read : {text page more : List ℕ} → IsBalanced text → IsBalanced page → AreGroups more
    → pair_of (braced text ++ (braced page ++ more)) ≡ Some (record { text = text; page = page })
pair-read {text} {page} {more} t p g =
    ap (option_and_then (λ g. option_and_then (λ h. pair_before h.1 (record { text = g.0; page = h.0 })) (group_of g.1))) (group-read (braced page ++ more) t)
    ∙ ap (option_and_then (λ h. pair_before h.1 (record { text = text; page = h.0 }))) (group-read more p)
    ∙ ap (λ (b : Bool). if b then Some (record { text = text; page = page }) else None) (groups-read g)

-- ---- Endings

same : (p l : List ℕ) → pointwise nat_eq p l ≡ true → p ≡ l
same [] [] e = refl
same [] (y ∷ l) e = cc
same (x ∷ p) [] e = cc
same (x ∷ p) (y ∷ l) e = by (nat_eq x y) refl e (same p l) where
  by : (b : Bool) → nat_eq x y ≡ b → (b && pointwise nat_eq p l) ≡ true → (pointwise nat_eq p l ≡ true → p ≡ l) → x ∷ p ≡ y ∷ l
  by true q e next = let a : x ≡ y = eqb-true x y q in λ i. a i ∷ next e i
  by false q e next = cc

abbrev last_byte : List ℕ → ℕ
last_byte [] = 0
last_byte (c ∷ []) = c
last_byte (c ∷ d ∷ l) = last_byte (d ∷ l)

last-behind : (x : List ℕ) (c : ℕ) (l : List ℕ) → last_byte (x ++ c ∷ l) ≡ last_byte (c ∷ l)
last-behind [] c l = refl
last-behind (d ∷ []) c l = refl
last-behind (d ∷ e ∷ x) c l = last-behind (e ∷ x) c l

last-at : (x p : List ℕ) (c : ℕ) → last_byte (x ++ (p ++ c ∷ [])) ≡ c
last-at x [] c = last-behind x c []
last-at x (d ∷ p) c = last-behind x d (p ++ c ∷ []) ∙ last-behind (d ∷ p) c []

differs : (c : ℕ) → (c == c) ≡ false → ⊥
differs c e = let t : (c == c) ≡ true = eq-eqb c c refl in cc

-- what ends in one byte does not have an ending that ends in another one
pub not-ending : (x p : List ℕ) (c d : ℕ) → (c == d) ≡ false → ends_with nat_eq (x ++ c ∷ []) (p ++ d ∷ []) ≡ false
not-ending x p c d n = by (ends_with nat_eq (x ++ c ∷ []) (p ++ d ∷ [])) refl where
  l : List ℕ
  l = x ++ c ∷ []

  k : ℕ
  k = length l - length (p ++ d ∷ [])

  by : (b : Bool) → ends_with nat_eq l (p ++ d ∷ []) ≡ b → b ≡ false
  by false e = refl
  by true e =
      let s : p ++ d ∷ [] ≡ drop k l = same (p ++ d ∷ []) (drop k l) e in
      let whole : take k l ++ (p ++ d ∷ []) ≡ l = ap (λ t. take k l ++ t) s ∙ take-append-drop k l in
      let bytes : d ≡ c = sym (last-at (take k l) p d) ∙ ap last_byte whole ∙ last-behind x c [] in
      let other : (c == c) ≡ false = ap (λ y. c == y) (sym bytes) ∙ n in
      absurd (differs c other)

pub without-none : (x p : List ℕ) (c d : ℕ) → (c == d) ≡ false → without_ending (p ++ d ∷ []) (x ++ c ∷ []) ≡ x ++ c ∷ []
without-none x p c d n =
    let l = x ++ c ∷ [] in
    ap (λ (b : Bool). if b then take (length l - length (p ++ d ∷ [])) l else l) (not-ending x p c d n)

-- ---- Lines

pub cut-first : (l text : List ℕ) → list_all (λ c. not (c == 10)) l ≡ true → cut_at_feeds (l ++ 10 ∷ text) ≡ l ∷ cut_at_feeds text
unfolding cut_at_feeds
cut-first [] text e = refl
cut-first (c ∷ l) text e =
    let p = both (not (c == 10)) (list_all (λ c. not (c == 10)) l) e in
    rw (not-true (c == 10) p.0, cut-first l text p.1) refl

-- the first line of a text, where it does not end in a carriage return
pub first-line : (x : List ℕ) (c : ℕ) (text : List ℕ) → list_all (λ c. not (c == 10)) (x ++ c ∷ []) ≡ true → (c == 13) ≡ false
    → lines_of (line (x ++ c ∷ []) ++ text) ≡ (x ++ c ∷ []) ∷ lines_of text
unfolding lines_of
first-line x c text e n =
    ap lines_of (append_assoc (x ++ c ∷ []) (10 ∷ []) text)
    ∙ ap (map (without_ending (13 ∷ []))) (cut-first (x ++ c ∷ []) text e)
    ∙ ap (λ l. l ∷ lines_of text) (without-none x [] c 13 n)
