-- What tests of numbers say, and searches for the first word that breaks a rule.
use Rattle.std.proofs.Common.{◌≡◌, ◌≢◌, ℕ, ◌+◌, ◌-◌, ◌<◌, ◌≤◌, Bool, true, false, cond, List, [], ◌∷◌, length, get_or, Option, None, Some, arith, refl, ap, ◌∙◌, sym}
use Prim.Native.Nat.{zero, suc}
use Rattle.std.specs.Prelude.{nat_lt, nat_le, ◌==◌, ◌||◌, ◌&&◌, not}
use Rattle.std.specs.List.{find, list_any, position_from, position_or_len, range_with_len}
use Rattle.std.proofs.lemmas.Bool.Decides.{nat_tests}
use Rattle.lb_model_paper.specs.FontFiles.{words}

pub above : (m n : ℕ) → m < n → nat_lt m n ≡ true
above m n h = grind (arith, nat_tests)

pub not-above : (m n : ℕ) → n ≤ m → nat_lt m n ≡ false
not-above m n h = grind (arith, nat_tests)

pub from : (m n : ℕ) → m ≤ n → nat_le m n ≡ true
from m n h = grind (arith, nat_tests)

pub not-from : (m n : ℕ) → n < m → nat_le m n ≡ false
not-from m n h = grind (arith, nat_tests)

pub same : (m n : ℕ) → m ≡ n → (m == n) ≡ true
same m n h = grind (arith, nat_tests)

pub other : (m n : ℕ) → m ≢ n → (m == n) ≡ false
other m n h = grind (arith, nat_tests)

pub is-same : (m n : ℕ) → (m == n) ≡ true → m ≡ n
is-same m n h = grind (arith, nat_tests)

pub is-other : (m n : ℕ) → (m == n) ≡ false → m ≢ n
is-other m n h = grind (arith, nat_tests)

pub is-from : (m n : ℕ) → nat_le m n ≡ true → m ≤ n
is-from m n h = grind (arith, nat_tests)

pub is-above : (m n : ℕ) → nat_lt m n ≡ true → m < n
is-above m n h = grind (arith, nat_tests)

pub is-not-above : (m n : ℕ) → nat_lt m n ≡ false → n ≤ m
is-not-above m n h = grind (arith, nat_tests)

pub both : (a b : Bool) → (a && b) ≡ true → (a ≡ true) × (b ≡ true)
both true b h = (refl, h)
both false b h = absurd cc

-- ---- searches

pub none-range : (p : ℕ → Bool) (start n : ℕ) → ((k : ℕ) → k < n → p (start + k) ≡ false) → find p (range_with_len start n) ≡ None
none-range p start zero h = refl
none-range p start (suc n) h =
    let e : start + 0 ≡ start = omega arith in
    let low : 0 < suc n = omega arith in
    let first : p start ≡ false = sym (ap p e) ∙ h 0 low in
    let step = λ (k : ℕ) (lt : k < n). (let f : start + 1 + k ≡ start + suc k = omega arith in let l : suc k < suc n = omega arith in ap p f ∙ h (suc k) l) in
    ap (λ (b : Bool). cond b (Some start) (find p (range_with_len (start + 1) n))) first ∙ none-range p (start + 1) n step

pub none-words : (p : ℕ → Bool) (start end n : ℕ) → end ≡ start + n → ((k : ℕ) → k < n → p (start + k) ≡ false) → find p (words start end) ≡ None
none-words p start end n is h = let e : end - start ≡ n = omega arith in ap (λ m. find p (range_with_len start m)) e ∙ none-range p start n h

-- ---- places

place-cases : {X : Type 0} (p : X → Bool) (x : X) (xs : List X) (b : Bool) → p x ≡ b → (b || list_any p xs) ≡ true → (list_any p xs ≡ true → (position_or_len p xs < length xs) × ((d : X) → p (get_or xs (position_or_len p xs) d) ≡ true))
    → (cond (not b) (1 + position_or_len p xs) 0 < length (x ∷ xs)) × ((d : X) → p (get_or (x ∷ xs) (cond (not b) (1 + position_or_len p xs) 0) d) ≡ true)
place-cases p x xs true is h later = (omega arith, λ d. is)
place-cases p x xs false is h later =
    let t = later h in
    let e : 1 + position_or_len p xs ≡ suc (position_or_len p xs) = omega arith in
    (omega (arith, t.0), λ d. ap (λ k. p (get_or (x ∷ xs) k d)) e ∙ t.1 d)

pub among-place : {X : Type 0} (p : X → Bool) (xs : List X) → list_any p xs ≡ true → (position_or_len p xs < length xs) × ((d : X) → p (get_or xs (position_or_len p xs) d) ≡ true)
among-place p [] h = absurd cc
among-place p (x ∷ xs) h = place-cases p x xs (p x) refl h (among-place p xs)

place-within-cases : (b : Bool) (j i n : ℕ) (later : Option ℕ) → (later ≡ Some i → i < j + 1 + n) → cond b (Some j) later ≡ Some i → i < j + suc n
place-within-cases true j i n later h e = let s : j ≡ i = cc in omega arith
place-within-cases false j i n later h e = omega (arith, h e)

pub place-within : (p : ℕ → Bool) (j i : ℕ) (xs : List ℕ) → position_from p j xs ≡ Some i → i < j + length xs
place-within p j i [] h = absurd cc
place-within p j i (x ∷ xs) h = place-within-cases (p x) j i (length xs) (position_from p (j + 1) xs) (place-within p (j + 1) i xs) h
