-- Look-ups of rows by their names, over any table.
use Rattle.std.proofs.Common.{◌≡◌, ◌↔◌, ℕ, ◌<◌, List, [], length, get_or, map, refl, sym, ap, ◌∙◌, subst, Option, Some, None, option_map, slice_get, Contains, IsSome}
use Rattle.std.specs.Option.{option_and_then}
use Rattle.std.proofs.lemmas.Option.{slice_get-map, slice_get-get_or, get_or_from_slice_get}
use Rattle.lb_rows.specs.Names.{place_of}
use Rattle.lb_rows.proofs.Places.{place_holds, found}

-- the name of the row at a place
pub slice_get-keys : {X : Type 0} (key : X → List ℕ) (rows : List X) (place : ℕ) (d : X) → place < length rows → slice_get (map key rows) place ≡ Some (key (get_or rows place d))
slice_get-keys key rows place d within = slice_get-map key rows place ∙ ap (option_map key) (slice_get-get_or rows place d within)

-- the row at the place of a name has this name
row_has_name : {X : Type 0} (key : X → List ℕ) (rows : List X) (name : List ℕ) (place : ℕ) (row : X) → place_of (map key rows) name ≡ Some place → slice_get rows place ≡ Some row → name ≡ key row
row_has_name key rows name place row at here =
    let held = place_holds (map key rows) name place at in
    let of_names : slice_get (map key rows) place ≡ Some (key row) = slice_get-map key rows place ∙ ap (option_map key) here in
    sym held.1 ∙ get_or_from_slice_get (map key rows) place (key row) [] of_names

pub named_some : {X : Type 0} (key : X → List ℕ) (rows : List X) → ((row : X) → option_and_then (slice_get rows) (place_of (map key rows) (key row)) ≡ Some row) → (name : List ℕ) (place : ℕ) (found : X) → place_of (map key rows) name ≡ Some place → slice_get rows place ≡ Some found → (row : X) → (Some found ≡ Some row) ↔ (name ≡ key row)
named_some key rows placed name place found at here row = (
  λ e. row_has_name key rows name place row at (here ∙ e),
  λ e.
      let by_row = subst (λ n. option_and_then (slice_get rows) (place_of (map key rows) n) ≡ Some row) (sym e) (placed row) in
      sym here ∙ subst (λ o. option_and_then (slice_get rows) o ≡ Some row) at by_row,
)

pub named_none : {X : Type 0} (key : X → List ℕ) (rows : List X) → ((row : X) → option_and_then (slice_get rows) (place_of (map key rows) (key row)) ≡ Some row) → (name : List ℕ) → place_of (map key rows) name ≡ None → (row : X) (answer : Option X) → answer ≡ None → (answer ≡ Some row) ↔ (name ≡ key row)
named_none key rows placed name nowhere row answer is_none = (
  λ e. absurd (cc),
  λ e.
      let by_row = subst (λ n. option_and_then (slice_get rows) (place_of (map key rows) n) ≡ Some row) (sym e) (placed row) in
      is_none ∙ subst (λ o. option_and_then (slice_get rows) o ≡ Some row) nowhere by_row,
)

-- rows of one name are the same
pub told_by_name : {X : Type 0} (key : X → List ℕ) (rows : List X) → ((row : X) → option_and_then (slice_get rows) (place_of (map key rows) (key row)) ≡ Some row) → (one other : X) → key one ≡ key other → one ≡ other
told_by_name key rows placed one other e =
    let both : Some one ≡ Some other = sym (placed one) ∙ ap (λ n. option_and_then (slice_get rows) (place_of (map key rows) n)) e ∙ placed other in
    cc

some_between : {X : Type 0} (get : ℕ → Option X) (place : Option ℕ) (row : X) → option_and_then get place ≡ Some row → IsSome place
some_between get None row e = absurd (cc)
some_between get (Some i) row e = refl

-- the name of each row is in the table
pub listed : {X : Type 0} (key : X → List ℕ) (rows : List X) → ((row : X) → option_and_then (slice_get rows) (place_of (map key rows) (key row)) ≡ Some row) → (row : X) → Contains (map key rows) (key row)
listed key rows placed row = (found (map key rows) (key row)).0 (some_between (slice_get rows) (place_of (map key rows) (key row)) row (placed row))
