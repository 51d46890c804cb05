-- Where a name stands among names that ascend.
use Rattle.std.proofs.Common.{◌≡◌, ◌≢◌, ℕ, ◌<◌, true, List, [], length, get_or, refl, ap, ◌∙◌, subst, Some, Less, Equal, Greater}
use Rattle.std.specs.Ordering.{ordering_reverse}
use Rattle.std.specs.Cmp.Lexicographic.{nat_list_cmp_total}
use Rattle.lb_rows.specs.Names.{place_of}
use Rattle.lb_rows.proofs.Order.{is_ascending, text_cmp, earlier_is_less}
use Rattle.lb_rows.proofs.Places.{place_at}

text_cmp-same : (x : List ℕ) → text_cmp x x ≡ Equal
text_cmp-same x = elim (text_cmp x x) as (λ o. text_cmp x x ≡ o → o ≡ ordering_reverse o → o ≡ Equal) [
  | Less ↦ λ e h. cc
  | Equal ↦ λ e h. refl
  | Greater ↦ λ e h. cc
] refl (nat_list_cmp_total.antisymm x x)

-- names of different order differ
less_differs : (x y : List ℕ) → text_cmp x y ≡ Less → x ≢ y
less_differs x y h e = let f : text_cmp y y ≡ Less = subst (λ z. text_cmp z y ≡ Less) e h in let g = text_cmp-same y in cc

-- a name that stands in the table has its place there
pub place_among : (rows : List (List ℕ)) (name : List ℕ) (i : ℕ) → is_ascending rows ≡ true → i < length rows → get_or rows i [] ≡ name → place_of rows name ≡ Some i
place_among rows name i h in_rows here =
    place_at rows name i in_rows here
    (λ k lt. less_differs _ _ (subst (λ z. text_cmp (get_or rows k []) z ≡ Less) here (earlier_is_less rows k i h lt in_rows)))
