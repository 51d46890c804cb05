-- One turn of a loop that goes through the words or the codes from one up to another, and its end.
use Rattle.std.proofs.Common.{◌≡◌, ℕ, ◌+◌, ◌-◌, ◌<◌, ◌≤◌, Bool, true, false, cond, List, [], ◌∷◌, ◌++◌, map, filter, arith, ap, ◌∙◌, sym, append_assoc}
use Prim.Native.Nat.{suc}
use Rattle.std.specs.List.{range_with_len}
use Rattle.std.proofs.lemmas.List.{append-nil}
use Rattle.lb_model_paper.specs.FontFiles.{words}

pub words-first : (w e : ℕ) → w < e → words w e ≡ w ∷ words (w + 1) e
words-first w e l = let long : e - w ≡ suc (e - (w + 1)) = omega arith in ap (range_with_len w) long

pub words-none : (w e : ℕ) → e ≤ w → words w e ≡ []
words-none w e l = let long : e - w ≡ 0 = omega arith in ap (range_with_len w) long

-- what is made of each
pub map-turn : {X : Type 0} (f : ℕ → X) (xs : List X) (x : X) (w e : ℕ) (whole : List X) → w < e → x ≡ f w → xs ++ map f (words w e) ≡ whole → (xs ++ x ∷ []) ++ map f (words (w + 1) e) ≡ whole
map-turn f xs x w e whole l is h =
    append_assoc xs (x ∷ []) (map f (words (w + 1) e)) ∙ ap (λ y. xs ++ y ∷ map f (words (w + 1) e)) is ∙ ap (λ ys. xs ++ map f ys) (sym (words-first w e l)) ∙ h

pub map-end : {X : Type 0} (f : ℕ → X) (xs : List X) (w e : ℕ) (whole : List X) → e ≤ w → xs ++ map f (words w e) ≡ whole → xs ≡ whole
map-end f xs w e whole l h = sym (append-nil xs) ∙ ap (λ ys. xs ++ map f ys) (sym (words-none w e l)) ∙ h

-- those that pass a test
filter-cons : (b : Bool) (xs ys : List ℕ) (x : ℕ) → (xs ++ cond b (x ∷ []) []) ++ ys ≡ xs ++ cond b (x ∷ ys) ys
filter-cons true xs ys x = append_assoc xs (x ∷ []) ys
filter-cons false xs ys x = append_assoc xs [] ys

pub filter-turn : (p : ℕ → Bool) (xs : List ℕ) (w e : ℕ) (whole : List ℕ) → w < e → xs ++ filter p (words w e) ≡ whole → (xs ++ cond (p w) (w ∷ []) []) ++ filter p (words (w + 1) e) ≡ whole
filter-turn p xs w e whole l h = filter-cons (p w) xs (filter p (words (w + 1) e)) w ∙ ap (λ ys. xs ++ filter p ys) (sym (words-first w e l)) ∙ h

pub filter-end : (p : ℕ → Bool) (xs : List ℕ) (w e : ℕ) (whole : List ℕ) → e ≤ w → xs ++ filter p (words w e) ≡ whole → xs ≡ whole
filter-end p xs w e whole l h = sym (append-nil xs) ∙ ap (λ ys. xs ++ filter p ys) (sym (words-none w e l)) ∙ h
