-- The search for the first word that breaks a rule.
use Rattle.std.proofs.Common.{◌≡◌, ℕ, ◌+◌, ◌-◌, ◌<◌, ◌≤◌, Bool, true, false, cond, List, [], ◌∷◌, ◌++◌, Option, None, Some, arith, refl, ap, ◌∙◌, sym, map, append_assoc, length}
use Prim.Native.Nat.{zero, suc}
use Rattle.std.proofs.lemmas.List.{append-nil, length-map}
use Rattle.std.proofs.lemmas.List.Folds.{find-append}
use Rattle.std.specs.Option.{option_or}
use Rattle.std.specs.List.{find, range_with_len}
use Rattle.lb_model_paper.specs.FontFiles.{codes_from, words}

pub words-first : (w e : ℕ) → w < e → words w e ≡ w ∷ words (w + 1) e
words-first w e l = let long : e - w ≡ suc (e - (w + 1)) = omega arith in ap (range_with_len w) long

pub words-none : (w e : ℕ) → e ≤ w → words w e ≡ []
words-none w e l = let long : e - w ≡ 0 = omega arith in ap (range_with_len w) long

pub find-here : (p : ℕ → Bool) (w e : ℕ) (r : Option ℕ) → w < e → p w ≡ true → find p (words w e) ≡ r → Some w ≡ r
find-here p w e r l h same = sym (ap (find p) (words-first w e l) ∙ rw h refl) ∙ same

pub find-later : (p : ℕ → Bool) (w e : ℕ) (r : Option ℕ) → w < e → p w ≡ false → find p (words w e) ≡ r → find p (words (w + 1) e) ≡ r
find-later p w e r l h same = sym (ap (find p) (words-first w e l) ∙ rw h refl) ∙ same

pub find-never : (p : ℕ → Bool) (w e : ℕ) (r : Option ℕ) → e ≤ w → find p (words w e) ≡ r → None ≡ r
find-never p w e r l same = sym (ap (find p) (words-none w e l)) ∙ same

-- where none of a list is found, its first number is not, nor any later one
pub none-first : (b : Bool) (x : ℕ) (rest : Option ℕ) → cond b (Some x) rest ≡ None → (b ≡ false) × (rest ≡ None)
none-first true x rest h = absurd cc
none-first false x rest h = (refl, h)

none-along : (p : ℕ → Bool) (n start k : ℕ) → k < n → find p (range_with_len start n) ≡ None → p (start + k) ≡ false
none-along p zero start k l h = absurd (omega arith)
none-along p (suc n) start zero l h = let e : start + 0 ≡ start = omega arith in ap p e ∙ (none-first (p start) start _ h).0
none-along p (suc n) start (suc k) l h =
    let e : start + suc k ≡ start + 1 + k = omega arith in
    let lt : k < n = omega arith in
    ap p e ∙ none-along p n (start + 1) k lt (none-first (p start) start _ h).1

pub none-at : (p : ℕ → Bool) (start end w : ℕ) → start ≤ w → w < end → find p (words start end) ≡ None → p w ≡ false
none-at p start end w low high h =
    let e : start + (w - start) ≡ w = omega arith in
    let lt : w - start < end - start = omega arith in
    sym (ap p e) ∙ none-along p (end - start) start (w - start) lt h

-- the search in one section, and then in another
pub find-first : (p : ℕ → Bool) (xs ys : List ℕ) (w : ℕ) → Some w ≡ find p xs → Some w ≡ find p (xs ++ ys)
find-first p xs ys w h = sym (find-append p xs ys ∙ ap (λ (o : Option ℕ). option_or o (find p ys)) (sym h))

pub find-second : (p : ℕ → Bool) (xs ys : List ℕ) (r : Option ℕ) → find p xs ≡ None → r ≡ find p ys → r ≡ find p (xs ++ ys)
find-second p xs ys r h same = same ∙ sym (find-append p xs ys ∙ ap (λ (o : Option ℕ). option_or o (find p ys)) h)

-- ---- tables: what is made of the words one after another

pub table-step : {X : Type 0} (f : ℕ → X) (xs : List X) (x : X) (w e : ℕ) (whole : List X) → w < e → x ≡ f w → xs ++ map f (words w e) ≡ whole → (xs ++ x ∷ []) ++ map f (words (w + 1) e) ≡ whole
table-step f xs x w e whole l is h =
    append_assoc xs (x ∷ []) (map f (words (w + 1) e)) ∙ ap (λ y. xs ++ y ∷ map f (words (w + 1) e)) is ∙ ap (λ ys. xs ++ map f ys) (sym (words-first w e l)) ∙ h

pub table-end : {X : Type 0} (f : ℕ → X) (xs : List X) (w e : ℕ) (whole : List X) → e ≤ w → xs ++ map f (words w e) ≡ whole → xs ≡ whole
table-end f xs w e whole l h = sym (append-nil xs) ∙ ap (λ ys. xs ++ map f ys) (sym (words-none w e l)) ∙ h

pub codes-step : {X : Type 0} (f : ℕ → X) (xs : List X) (x : X) (code : ℕ) (whole : List X) → code < 256 → x ≡ f code → xs ++ map f (codes_from code) ≡ whole → (xs ++ x ∷ []) ++ map f (codes_from (code + 1)) ≡ whole
unfolding codes_from
codes-step f xs x code whole l is h = table-step f xs x code 256 whole l is h

pub codes-end : {X : Type 0} (f : ℕ → X) (xs : List X) (x : X) (whole : List X) → x ≡ f 255 → xs ++ map f (codes_from 255) ≡ whole → xs ++ x ∷ [] ≡ whole
unfolding codes_from
codes-end f xs x whole is h = ap (λ y. xs ++ y ∷ []) is ∙ h

pub codes-length : {X : Type 0} (f : ℕ → X) → length (map f (codes_from 0)) ≡ 256
unfolding codes_from
codes-length f = length-map (words 0 256) f
