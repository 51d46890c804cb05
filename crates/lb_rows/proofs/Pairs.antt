-- Look-ups of the kinds of names, over any table of pairs whose names ascend.
use Rattle.std.proofs.Common.{◌≡◌, ◌↔◌, ℕ, ◌<◌, List, [], length, get_or, map, sym, ap, ◌∙◌, Option, Some, None, slice_get, Contains, IsSome, true}
use Rattle.std.proofs.lemmas.List.{get_or-map}
use Rattle.std.proofs.lemmas.Option.{get_or_from_slice_get}
use Rattle.std.proofs.Math.ListN.{length-map}
use Rattle.lb_rows.specs.Names.{place_of}
use Rattle.lb_rows.proofs.Order.{is_ascending}
use Rattle.lb_rows.proofs.Places.{place_holds, found}
use Rattle.lb_rows.proofs.Search.{place_among}

abbrev names : {X : Type 0} → List (List ℕ × X) → List (List ℕ)
names rows = map (λ row. row.0) rows

abbrev kinds : {X : Type 0} → List (List ℕ × X) → List X
kinds rows = map (λ row. row.1) rows

same_pair : {X : Type 0} (row : List ℕ × X) (name : List ℕ) (kind : X) → row.0 ≡ name → row.1 ≡ kind → row ≡ (name, kind)
same_pair (n, k) name kind e f = cc

in_names : {X : Type 0} (rows : List (List ℕ × X)) (k : ℕ) → k < length rows → k < length (names rows)
in_names rows k h = rw length-map h

name_at : {X : Type 0} (rows : List (List ℕ × X)) (name : List ℕ) (kind : X) (k : ℕ) (d : List ℕ) → k < length rows → get_or rows k (name, kind) ≡ (name, kind) → get_or (names rows) k d ≡ name
name_at rows name kind k d lt here = get_or-map (λ row. row.0) rows k (name, kind) d lt ∙ ap (λ row. row.0) here

kind_at : {X : Type 0} (rows : List (List ℕ × X)) (name : List ℕ) (kind : X) (k : ℕ) → k < length rows → get_or rows k (name, kind) ≡ (name, kind) → get_or (kinds rows) k kind ≡ kind
kind_at rows name kind k lt here = get_or-map (λ row. row.1) rows k (name, kind) kind lt ∙ ap (λ row. row.1) here

-- where the names ascend, the name stands at no other place
only_place : (rows : List (List ℕ)) (name : List ℕ) (k place : ℕ) → is_ascending rows ≡ true → k < length rows → get_or rows k [] ≡ name → place_of rows name ≡ Some place → k ≡ place
only_place rows name k place ascending in_rows here at =
    let both : Some k ≡ Some place = sym (place_among rows name k ascending in_rows here) ∙ at in
    cc

pub refused_some : {X : Type 0} (rows : List (List ℕ × X)) (name : List ℕ) (place : ℕ) (kind : X) → is_ascending (map (λ row. row.0) rows) ≡ true → place_of (map (λ row. row.0) rows) name ≡ Some place → slice_get (map (λ row. row.1) rows) place ≡ Some kind → (other : X) → (Some kind ≡ Some other) ↔ Contains rows (name, other)
refused_some rows name place kind ascending at here other = (
  λ e.
      let held = place_holds (names rows) name place at in
      let inside : place < length rows = rw length-map at held.0 in
      let row_name = sym (get_or-map (λ row. row.0) rows place (name, other) [] inside) ∙ held.1 in
      let row_kind = sym (get_or-map (λ row. row.1) rows place (name, other) other inside) ∙ get_or_from_slice_get (kinds rows) place other other (here ∙ e) in
      (place, inside, same_pair (get_or rows place (name, other)) name other row_name row_kind),
  λ has.
      let same_place = only_place (names rows) name has.0 place ascending (in_names rows has.0 has.1) (name_at rows name other has.0 [] has.1 has.2) at in
      let of_other = kind_at rows name other has.0 has.1 has.2 in
      let of_kind = get_or_from_slice_get (kinds rows) place kind other here in
      ap Some (sym of_kind ∙ ap (λ k. get_or (kinds rows) k other) (sym same_place) ∙ of_other),
)

pub refused_none : {X : Type 0} (rows : List (List ℕ × X)) (name : List ℕ) → place_of (map (λ row. row.0) rows) name ≡ None → (other : X) (answer : Option X) → answer ≡ None → (answer ≡ Some other) ↔ Contains rows (name, other)
refused_none rows name nowhere other answer is_none = (
  λ e. absurd (cc),
  λ has.
      let some : IsSome (place_of (names rows) name) = (found (names rows) name).1 (has.0, in_names rows has.0 has.1, name_at rows name other has.0 name has.1 has.2) in
      absurd (cc),
)
