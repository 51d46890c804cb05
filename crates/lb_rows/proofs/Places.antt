-- Where a name stands in a table.
use Rattle.std.proofs.Common.{◌≡◌, ◌≢◌, ℕ, ◌+◌, ◌<◌, ◌≤◌, Bool, true, false, cond, List, [], ◌∷◌, length, get_or, refl, sym, arith, ltb, Some, None, nat_eq, IsSome, ◌↔◌, Contains, not, subst, zero, suc, ap, is_some, ◌∙◌}
use Rattle.std.proofs.lemmas.List.{get_or_default}
use Rattle.std.proofs.lemmas.Bool.Decides.{nat_tests}
use Rattle.std.specs.List.{position_or_len}
use Rattle.std.proofs.lemmas.List.Sums.{position_or_len_is}
use Rattle.std.proofs.lemmas.List.Quantifiers.{position-Some}
use Rattle.std.specs.Cmp.Lexicographic.{same_text, other_text}
use lib.Pointwise.{pointwise}
use Rattle.lb_rows.specs.Names.{place_of}

pub differs : (x y : List ℕ) → x ≢ y → pointwise nat_eq x y ≡ false
differs x y ne = elim (pointwise nat_eq x y) as (λ b. pointwise nat_eq x y ≡ b → b ≡ false) [ true ↦ λ e. absurd (ne (same_text x y (sym e))) | false ↦ λ e. refl ] refl

pub same : (x y : List ℕ) → x ≡ y → pointwise nat_eq x y ≡ true
same x y e = elim (pointwise nat_eq x y) as (λ b. pointwise nat_eq x y ≡ b → b ≡ true) [ true ↦ λ h. refl | false ↦ λ h. absurd (other_text x y (sym h) e) ] refl

some_below : (n m : ℕ) → n < m → cond (ltb n m) (Some n) None ≡ Some n
some_below n m h = grind (arith, nat_tests)

none_at_end : (n m : ℕ) → m ≤ n → cond (ltb n m) (Some n) None ≡ None
none_at_end n m h = grind (arith, nat_tests)

pub place_at : (rows : List (List ℕ)) (name : List ℕ) (i : ℕ) → i < length rows → get_or rows i [] ≡ name → ((k : ℕ) → k < i → get_or rows k [] ≢ name) → place_of rows name ≡ Some i
place_at rows name i in_rows here before =
    let within : i ≤ length rows = omega arith in
    let first = position_or_len_is (λ row. pointwise nat_eq row name) rows i [] within (λ k lt. differs _ _ (before k lt)) (λ lt. same _ _ here) in
    subst (λ n. cond (ltb n (length rows)) (Some n) None ≡ Some i) (sym first) (some_below i (length rows) in_rows)

pub no_place : (rows : List (List ℕ)) (name : List ℕ) → ((k : ℕ) → k < length rows → get_or rows k [] ≢ name) → place_of rows name ≡ None
no_place rows name nowhere =
    let within : length rows ≤ length rows = omega arith in
    let first = position_or_len_is (λ row. pointwise nat_eq row name) rows (length rows) [] within (λ k lt. differs _ _ (nowhere k lt)) (λ lt. absurd (omega arith)) in
    subst (λ n. cond (ltb n (length rows)) (Some n) None ≡ None) (sym first) (none_at_end (length rows) (length rows) within)

-- a name of the table has a place, and the row of a place has its name
pub place_holds : (rows : List (List ℕ)) (name : List ℕ) (i : ℕ) → place_of rows name ≡ Some i → (i < length rows) × (get_or rows i [] ≡ name)
place_holds rows name i e =
    let told = position-Some (λ row. pointwise nat_eq row name) rows i [] e in
    (told.0, same_text _ _ (sym told.1))

passed_by : {X : Type 0} (p : X → Bool) (xs : List X) (k : ℕ) (d : X) → k < length xs → p (get_or xs k d) ≡ true → position_or_len p xs ≤ k
passed_by p [] k d lt h = absurd (omega arith)
passed_by p (x ∷ xs) zero d lt h = rw h (omega arith)
passed_by p (x ∷ xs) (suc k) d lt h =
    let rest = passed_by p xs k d (omega arith) h in
    elim (p x) as (λ b. cond (not b) (1 + position_or_len p xs) 0 ≤ suc k) [ true ↦ omega arith | false ↦ omega arith ]

has_place : (n m : ℕ) → n < m → IsSome (cond (ltb n m) (Some n) None)
has_place n m h = ap is_some (some_below n m h)

pub found : (rows : List (List ℕ)) (name : List ℕ) → IsSome (place_of rows name) ↔ Contains rows name
found rows name = (
  elim (place_of rows name) as (λ o. place_of rows name ≡ o → IsSome o → Contains rows name) [
    | None ↦ λ e h. absurd (cc)
    | Some i ↦ λ e h. let held = place_holds rows name i e in (i, held.0, get_or_default rows i name [] held.0 ∙ held.1)
  ] refl,
  λ has.
      let at : get_or rows has.0 [] ≡ name = get_or_default rows has.0 [] name has.1 ∙ has.2 in
      let passed = passed_by (λ row. pointwise nat_eq row name) rows has.0 [] has.1 (same _ _ at) in
      has_place _ _ (omega arith),
)
