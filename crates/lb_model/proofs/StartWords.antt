-- What names mean at the start.
use Rattle.std.proofs.Common.{◌≡◌, ◌∙◌, ℕ, ◌+◌, Bool, true, false, cond, List, [], ◌∷◌, map, Option, Some, None, is_some, IsSome, Contains, nat_eq, refl, sym, ap}
use Rattle.std.specs.List.{position_from}
use Rattle.std.proofs.lemmas.Iterator.Adapters.{position_from-zero}
use Rattle.std.specs.Cmp.Lexicographic.{pointwise, same_text}
use Rattle.lb_rows.specs.Names.{place_of}
use Rattle.lb_rows.proofs.Places.{found}
use Rattle.lb_model.specs.StartState.{row_named}

some-next : {X Y : Type 0} (b : Bool) (row : X) (more : Option X) (place : Y) (later : Option Y) → is_some more ≡ is_some later → is_some (cond b (Some row) more) ≡ is_some (cond b (Some place) later)
some-next true row more place later e = refl
some-next false row more place later e = e

some-from : {X : Type 0} (name_of : X → List ℕ) (rows : List X) (name : List ℕ) (i : ℕ) → is_some (row_named name_of rows name) ≡ is_some (position_from (λ row. pointwise nat_eq row name) i (map name_of rows))
some-from name_of [] name i = refl
some-from name_of (row ∷ rows) name i = some-next (pointwise nat_eq (name_of row) name) row (row_named name_of rows name) i (position_from (λ r. pointwise nat_eq r name) (i + 1) (map name_of rows)) (some-from name_of rows name (i + 1))

-- a row has the name exactly where the name is in the table
pub row-some : {X : Type 0} (name_of : X → List ℕ) (rows : List X) (name : List ℕ) → is_some (row_named name_of rows name) ≡ is_some (place_of (map name_of rows) name)
row-some name_of rows name = some-from name_of rows name 0 ∙ ap is_some (sym (position_from-zero (λ row. pointwise nat_eq row name) (map name_of rows)))

found-at : {X : Type 0} (name_of : X → List ℕ) (row : X) (more : Option X) (name : List ℕ) (r : X) (b : Bool) → pointwise nat_eq (name_of row) name ≡ b → (more ≡ Some r → name_of r ≡ name) → cond b (Some row) more ≡ Some r → name_of r ≡ name
found-at name_of row more name r true same rest e =
    let one : row ≡ r = cc in
    ap name_of (sym one) ∙ same_text (name_of row) name (sym same)
found-at name_of row more name r false same rest e = rest e

-- a row that is found has the name
pub row-name : {X : Type 0} (name_of : X → List ℕ) (rows : List X) (name : List ℕ) (r : X) → row_named name_of rows name ≡ Some r → name_of r ≡ name
row-name name_of [] name r e = absurd (cc)
row-name name_of (row ∷ rows) name r e = found-at name_of row (row_named name_of rows name) name r (pointwise nat_eq (name_of row) name) refl (row-name name_of rows name r) e

by-option : {X : Type 0} (name_of : X → List ℕ) (name : List ℕ) (row : X) (found : Option X) → IsSome found → ((r : X) → found ≡ Some r → name_of r ≡ name) → ((r : X) → name_of r ≡ name → r ≡ row) → found ≡ Some row
by-option name_of name row None some named told = absurd (cc)
by-option name_of name row (Some r) some named told = ap Some (told r (named r refl))

-- where rows of one name are the same, a row is found by its name
pub own-row : {X : Type 0} (name_of : X → List ℕ) (rows : List X) (row : X) → ((one other : X) → name_of one ≡ name_of other → one ≡ other) → Contains (map name_of rows) (name_of row) → row_named name_of rows (name_of row) ≡ Some row
own-row name_of rows row told listed =
    by-option name_of (name_of row) row (row_named name_of rows (name_of row))
    (row-some name_of rows (name_of row) ∙ (found (map name_of rows) (name_of row)).1 listed)
    (row-name name_of rows (name_of row))
    (λ r e. told r row e)

none-by : {X : Type 0} (found : Option X) → ¬ IsSome found → found ≡ None
none-by None not_some = refl
none-by (Some r) not_some = absurd (not_some refl)

-- no row has a name that is not in the table
pub no-row : {X : Type 0} (name_of : X → List ℕ) (rows : List X) (name : List ℕ) → ¬ Contains (map name_of rows) name → row_named name_of rows name ≡ None
no-row name_of rows name missing = none-by (row_named name_of rows name) (λ some. missing ((found (map name_of rows) name).0 (sym (row-some name_of rows name) ∙ some)))
