-- Names that ascend are each before all later ones.
use Rattle.std.proofs.Common.{◌≡◌, ℕ, ◌<◌, Bool, true, false, ◌&&◌, List, [], ◌∷◌, length, get_or, refl, Ordering, Less, Equal, Greater}
use Rattle.std.specs.Ordering.{nat_cmp, is_lt}
use Rattle.std.specs.Cmp.Lexicographic.{slice_cmp, nat_list_cmp_total}
use Rattle.std.specs.List.{AllByRecursion}
use Rattle.std.specs.List.Sorted.{IsStrictlySortedBy}
use Rattle.std.proofs.lemmas.Map.Keys.{Less-from_sorted}

-- whether a name comes before another in the order of their bytes, as in a dictionary
abbrev pub is_before : List ℕ → List ℕ → Bool
is_before x y = is_lt (slice_cmp nat_cmp x y)

-- whether a name comes before the first of a table, if that has one
abbrev pub is_before_first : List ℕ → List (List ℕ) → Bool
is_before_first x [] = true
is_before_first x (y ∷ rows) = is_before x y

-- whether each name comes before the next
abbrev pub is_ascending : List (List ℕ) → Bool
is_ascending [] = true
is_ascending (x ∷ rows) = is_before_first x rows && is_ascending rows

abbrev pub text_cmp : List ℕ → List ℕ → Ordering
text_cmp = slice_cmp nat_cmp

pub less_from_test : (o : Ordering) → is_lt o ≡ true → o ≡ Less
less_from_test Less h = refl
less_from_test Equal h = cc
less_from_test Greater h = cc

pub both : (a b : Bool) → (a && b) ≡ true → (a ≡ true) × (b ≡ true)
both true b h = (refl, h)
both false b h = cc

-- what a name is before, an earlier name is before
after_all : (x y : List ℕ) (rows : List (List ℕ)) → text_cmp x y ≡ Less → AllByRecursion (λ z. text_cmp y z ≡ Less) rows → AllByRecursion (λ z. text_cmp x z ≡ Less) rows
after_all x y [] h all = tt
after_all x y (z ∷ rows) h all = (nat_list_cmp_total.trans x y z h all.0, after_all x y rows h all.1)

pub strictly_sorted : (rows : List (List ℕ)) → is_ascending rows ≡ true → IsStrictlySortedBy text_cmp rows
unfolding IsStrictlySortedBy
strictly_sorted [] h = tt
strictly_sorted (x ∷ []) h = (tt, tt)
strictly_sorted (x ∷ y ∷ rows) h =
    let parts = both _ _ h in
    let rest = strictly_sorted (y ∷ rows) parts.1 in
    let first : text_cmp x y ≡ Less = less_from_test _ parts.0 in
    ((first, after_all x y rows first rest.0), rest)

pub earlier_is_less : (rows : List (List ℕ)) (i j : ℕ) → is_ascending rows ≡ true → i < j → j < length rows → text_cmp (get_or rows i []) (get_or rows j []) ≡ Less
earlier_is_less rows i j h lt in_rows = Less-from_sorted text_cmp rows i j [] (strictly_sorted rows h) lt in_rows
