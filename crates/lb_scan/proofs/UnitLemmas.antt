-- Units by their letters: one letter more, and what is no letter.
use Rattle.std.proofs.Common.{◌≡◌, ◌∙◌, ◌==◌, Bool, true, false, ℕ, List, [], ◌∷◌, Some, None, refl, ap, if◌then◌else◌}
use Rattle.lb_base.specs.declared.token.Tok.{Tok}
use Rattle.lb_base.specs.declared.token.Tok.TheVariants.{Char, Word, Active, Param}
use Rattle.lb_model_grammar.specs.declared.given.Given.{Given}
use Rattle.lb_model_grammar.specs.declared.given.Given.TheVariants.{Tok as AToken}
use Rattle.lb_model_grammar.specs.declared.given.Scanned.{Scanned}
use Rattle.lb_model_grammar.specs.Dimensions.{Unit_of}
use Rattle.lb_model_grammar.specs.Scans.{Meant, is_letter, letters, lower, one_of}
use Rattle.lb_scan.specs.Words.{at_end, begins, behind_letter, letter_of, no_letter, none_begins, units_in, without}

letter_test : (c : ℕ) (t : Tok) (l : ℕ) → letter_of t ≡ Some l → is_letter c t ≡ (l == lower c)
letter_test c (Char cat x) l h = let e : lower x ≡ l = cc in ap (λ v. v == lower c) e
letter_test c (Active x) l h = let e : lower x ≡ l = cc in ap (λ v. v == lower c) e
letter_test c (Word name) l h = absurd cc
letter_test c (Param n) l h = absurd cc

no_letter_test : (c : ℕ) (t : Tok) → letter_of t ≡ None → is_letter c t ≡ false
no_letter_test c (Char cat x) h = absurd cc
no_letter_test c (Active x) h = absurd cc
no_letter_test c (Word name) h = refl
no_letter_test c (Param n) h = refl

module _ (F : Unit_of → List Given → Meant Scanned) (m : Meant Scanned) (t : Tok) (more : List Given) where
  abbrev ended : Unit_of → Meant Scanned
  ended u = F u (AToken t ∷ more)

  choose : (b : Bool) (word : List ℕ) (u : Unit_of) (ends : List (List ℕ × Unit_of)) (x y : Meant Scanned) → x ≡ one_of ends F y more
      → (if b then letters word (F u) x more else x) ≡ one_of (if b then (word, u) ∷ ends else ends) F y more
  choose true word u ends x y h = ap (λ z. letters word (F u) z more) h
  choose false word u ends x y h = h

  at_word : (l : ℕ) → letter_of t ≡ Some l → (word : List ℕ) (u : Unit_of) (ends : List (List ℕ × Unit_of)) (x y : Meant Scanned) → x ≡ one_of ends F y more
      → letters word (F u) x (AToken t ∷ more) ≡ one_of (without l word u ends) F (at_end word u ended y) more
  at_word l h [] u ends x y e = refl
  at_word l h (c ∷ word) u ends x y e =
      ap (λ b. if b then letters word (F u) x more else x) (letter_test c t l h) ∙ choose (l == lower c) word u ends x y e

  pub one-of-letter : (l : ℕ) → letter_of t ≡ Some l → (ws : List (List ℕ × Unit_of)) → one_of ws F m (AToken t ∷ more) ≡ one_of (behind_letter l ws) F (no_letter ws ended m) more
  one-of-letter l h [] = refl
  one-of-letter l h (w ∷ ws) = at_word l h w.0 w.1 (behind_letter l ws) (one_of ws F m (AToken t ∷ more)) (no_letter ws ended m) (one-of-letter l h ws)

  no_word : letter_of t ≡ None → (word : List ℕ) (u : Unit_of) (x y : Meant Scanned) → x ≡ y → letters word (F u) x (AToken t ∷ more) ≡ at_end word u ended y
  no_word h [] u x y e = refl
  no_word h (c ∷ word) u x y e = ap (λ b. if b then letters word (F u) x more else x) (no_letter_test c t h) ∙ e

  pub one-of-none : letter_of t ≡ None → (ws : List (List ℕ × Unit_of)) → one_of ws F m (AToken t ∷ more) ≡ no_letter ws ended m
  one-of-none h [] = refl
  one-of-none h (w ∷ ws) = no_word h w.0 w.1 (one_of ws F m (AToken t ∷ more)) (no_letter ws ended m) (one-of-none h ws)

-- no unit is at its end before its first letter
pub none-ended : (infinite : Bool) (f : Unit_of → Meant Scanned) (m : Meant Scanned) → no_letter (units_in infinite) f m ≡ m
none-ended true f m = refl
none-ended false f m = refl

skip : (b : Bool) (rest : Bool) → (if b then false else rest) ≡ true → b ≡ false
skip true rest h = absurd cc
skip false rest h = refl

keep : (b : Bool) (rest : Bool) → (if b then false else rest) ≡ true → rest ≡ true
keep true rest h = absurd cc
keep false rest h = h

no_beginning : (l : ℕ) (word : List ℕ) (u : Unit_of) (ends : List (List ℕ × Unit_of)) → begins l word ≡ false → ends ≡ [] → without l word u ends ≡ []
no_beginning l [] u ends h e = refl
no_beginning l (c ∷ word) u ends h e = ap (λ b. if b then (word, u) ∷ ends else ends) h ∙ e

pub none-behind : (l : ℕ) (ws : List (List ℕ × Unit_of)) → none_begins l ws ≡ true → behind_letter l ws ≡ []
none-behind l [] h = refl
none-behind l (w ∷ ws) h =
    no_beginning l w.0 w.1 (behind_letter l ws) (skip (begins l w.0) (none_begins l ws) h) (none-behind l ws (keep (begins l w.0) (none_begins l ws) h))

-- the first letter of a unit
module _ (infinite : Bool) (F : Unit_of → List Given → Meant Scanned) (m : Meant Scanned) (t : Tok) (more : List Given) where
  pub units-begin : (l : ℕ) → letter_of t ≡ Some l → one_of (units_in infinite) F m (AToken t ∷ more) ≡ one_of (behind_letter l (units_in infinite)) F m more
  units-begin l h =
      one-of-letter F m t more l h (units_in infinite)
      ∙ ap (λ x. one_of (behind_letter l (units_in infinite)) F x more) (none-ended infinite (λ u. F u (AToken t ∷ more)) m)

  pub units-begin-none : letter_of t ≡ None → one_of (units_in infinite) F m (AToken t ∷ more) ≡ m
  units-begin-none h = one-of-none F m t more h (units_in infinite) ∙ none-ended infinite (λ u. F u (AToken t ∷ more)) m
