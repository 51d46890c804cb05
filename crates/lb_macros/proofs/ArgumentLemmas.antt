-- Arguments, which are never None.
use Rattle.std.proofs.Common.{◌≡◌, ◌++◌, ◌∷◌, List, [], ℕ, zero, suc, get_or, refl, ap}
use Rattle.std.specs.Prelude.{Option, None}
use Rattle.lb_base.specs.declared.token.Tok.{Tok}
use Rattle.lb_macros.specs.Calls.{list_or_none, lists_of}

pub lists_of_snoc : (xs : List (Option (List Tok))) (x : Option (List Tok)) → lists_of (xs ++ x ∷ []) ≡ lists_of xs ++ list_or_none x ∷ []
lists_of_snoc [] x = refl
lists_of_snoc (y ∷ xs) x = ap (λ l. list_or_none y ∷ l) (lists_of_snoc xs x)

pub get_list : (xs : List (Option (List Tok))) (i : ℕ) → get_or (lists_of xs) i [] ≡ list_or_none (get_or xs i None)
get_list [] i = refl
get_list (x ∷ xs) zero = refl
get_list (x ∷ xs) (suc i) = get_list xs i
