-- How a journal grows, call after call.
use Rattle.std.proofs.Common.{◌≡◌, ℕ, suc, ◌<◌, List, [], ◌∷◌, ◌++◌, length, get_or, take, drop, Option, Some, None, sym, ◌∙◌, ap, subst, append_assoc, take-append-drop, drop-cons, Result, Ok, Err}
use Rattle.std.proofs.lemmas.List.{append-nil}
use Rattle.std.proofs.lemmas.Grind.{flat_map-append}
use Rattle.std.specs.Prelude.{OnErr, IfOk, IsOkAnd, MatchResult}
use Rattle.std.specs.List.{flat_map}
use Rattle.lb_model.specs.Journal.{Entry, Adds, AddsPrefix}

-- a list around one of its items
pub around : {X : Type 0} (xs : List X) (i : ℕ) (x : X) → i < length xs → x ≡ get_or xs i x → xs ≡ take i xs ++ x ∷ drop (suc i) xs
around xs i x lt is = sym (take-append-drop i xs) ∙ ap (λ l. take i xs ++ l) (drop-cons xs i x lt ∙ ap (λ y. y ∷ drop (suc i) xs) (sym is))

pub flat_map_around : {X Y : Type 0} (f : X → List Y) (xs : List X) (i : ℕ) (x : X) → i < length xs → x ≡ get_or xs i x → flat_map f xs ≡ flat_map f (take i xs) ++ (f x ++ flat_map f (drop (suc i) xs))
flat_map_around f xs i x lt is = ap (flat_map f) (around xs i x lt is) ∙ flat_map-append f (take i xs) (x ∷ drop (suc i) xs)

pub adds_nothing : (a : Option (List Entry)) → Adds a a []
adds_nothing None = tt
adds_nothing (Some old) = sym (append-nil old)

pub adds_then : (a b c : Option (List Entry)) (xs ys : List Entry) → Adds a b xs → Adds b c ys → Adds a c (xs ++ ys)
adds_then a b None xs ys p q = tt
adds_then a None (Some t) xs ys p q = absurd q
adds_then None (Some s) (Some t) xs ys p q = absurd p
adds_then (Some r) (Some s) (Some t) xs ys p q = q ∙ ap (λ l. l ++ ys) p ∙ append_assoc r xs ys

-- what was done wholly, and then some of the next entries
pub prefix_after : (a b c : Option (List Entry)) (xs ys rest whole : List Entry) → whole ≡ xs ++ (ys ++ rest) → Adds a b xs → AddsPrefix b c ys → AddsPrefix a c whole
prefix_after a b None xs ys rest whole is p q = tt
prefix_after a None (Some t) xs ys rest whole is p q = absurd q
prefix_after None (Some s) (Some t) xs ys rest whole is p q = absurd p
prefix_after (Some r) (Some s) (Some t) xs ys rest whole is p (part, left, same) = (
  xs ++ part,
  (
    left.0 ++ rest,
    is ∙ ap (λ l. xs ++ (l ++ rest)) left.1 ∙ ap (λ l. xs ++ l) (append_assoc part left.0 rest) ∙ sym (append_assoc xs part (left.0 ++ rest)),
  ),
  same ∙ ap (λ l. l ++ part) p ∙ append_assoc r xs part,
)

-- nothing was done of these entries
pub prefix_none : (a : Option (List Entry)) (whole : List Entry) → AddsPrefix a a whole
prefix_none None whole = tt
prefix_none (Some old) whole = ([], (whole, λ i. whole), sym (append-nil old))

-- some of them, and so some of more
pub prefix_more : (a b : Option (List Entry)) (ys rest whole : List Entry) → whole ≡ ys ++ rest → AddsPrefix a b ys → AddsPrefix a b whole
prefix_more a b ys rest whole is p = prefix_after a a b [] ys rest whole is (adds_nothing a) p

-- all of them were done, and none of what follows
pub prefix_whole : (a b : Option (List Entry)) (xs rest whole : List Entry) → whole ≡ xs ++ rest → Adds a b xs → AddsPrefix a b whole
prefix_whole a None xs rest whole is p = tt
prefix_whole None (Some s) xs rest whole is p = absurd p
prefix_whole (Some r) (Some s) xs rest whole is p = (xs, (rest, is), p)

-- a clause on errors, from what holds whatever the result
pub on_err : {T E P : Type 0} (r : Result T E) → P → OnErr r P
on_err (Ok x) p = tt
on_err (Err e) p = p

-- What was made is done, or nothing is done where it was not made.
pub made_whole : {W E : Type 0} (entries : W → List Entry) (r : Result W E) (a b : Option (List Entry)) (xs : List Entry) → IfOk r (λ w. entries w ≡ xs) → IsOkAnd r (λ w. Adds a b (entries w)) → Adds a b xs
made_whole entries (Ok w) a b xs is done = subst (Adds a b) is done
made_whole entries (Err e) a b xs is done = absurd done

pub made_prefix : {W E : Type 0} (entries : W → List Entry) (r : Result W E) (a b : Option (List Entry)) (xs rest whole : List Entry) → whole ≡ xs ++ rest → IfOk r (λ w. entries w ≡ xs) → MatchResult r (λ w. AddsPrefix a b (entries w)) (λ _. b ≡ a) → AddsPrefix a b whole
made_prefix entries (Ok w) a b xs rest whole is made done = prefix_more a b xs rest whole is (subst (AddsPrefix a b) made done)
made_prefix entries (Err e) a b xs rest whole is made done = subst (λ j. AddsPrefix a j whole) (sym done) (prefix_none a whole)
