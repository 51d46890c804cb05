-- Tables without a common name, by a test that computes.
use Rattle.std.proofs.Common.{◌≡◌, ℕ, ◌<◌, Bool, true, not, ◌&&◌, List, [], ◌∷◌, length, get_or, subst, arith, zero, suc, nat_eq, Contains}
use Rattle.std.specs.List.{list_any}
use Rattle.std.specs.Cmp.Lexicographic.{nat_list_eq_equiv}
use Rattle.std.proofs.lemmas.Map.Views.{list_any-from_Contains}
use lib.Pointwise.{pointwise}
use Rattle.lb_rows.proofs.Order.{both}

abbrev pub have_no_common : List (List ℕ) → List (List ℕ) → Bool
have_no_common [] others = true
have_no_common (name ∷ names) others = not (list_any (pointwise nat_eq name) others) && have_no_common names others

none_of_others : (names others : List (List ℕ)) (k : ℕ) (name : List ℕ) → have_no_common names others ≡ true → k < length names → get_or names k name ≡ name → not (list_any (pointwise nat_eq name) others) ≡ true
none_of_others [] others k name h lt at = absurd (omega arith)
none_of_others (n ∷ names) others zero name h lt at = subst (λ m. not (list_any (pointwise nat_eq m) others) ≡ true) at (both _ _ h).0
none_of_others (n ∷ names) others (suc k) name h lt at = none_of_others names others k name (both _ _ h).1 (omega arith) at

pub apart : (names others : List (List ℕ)) → have_no_common names others ≡ true → (name : List ℕ) → Contains names name → Contains others name → ⊥
apart names others h name in_names in_others =
    let no = none_of_others names others in_names.0 name h in_names.1 in_names.2 in
    let yes = list_any-from_Contains nat_list_eq_equiv name others in_others in
    cc
