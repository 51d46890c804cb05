-- One more row, and one more code, of the state in which a book begins.
use Rattle.std.proofs.Common.{◌≡◌, ℕ, suc, ◌+◌, ◌-◌, ◌<◌, cond, nat_eq, nat_lt, List, [], ◌∷◌, ◌++◌, Option, Some, None, option_map, map, length, get_or, take, drop, slice_get, add-one, arith, rules, pos, refl, ap, sym, ◌∙◌}
use Rattle.std.proofs.Math.Seq.{drop-cons, take-suc}
use Rattle.std.proofs.lemmas.List.{map-append}
use Rattle.std.proofs.lemmas.Option.{get_or_from_slice_get, slice_get-get_or, slice_get-map, slice_get_within}
use Rattle.lb_values.specs.Cells.{cell_eq}
use Rattle.lb_values.specs.declared.cell.Cell.{Cell}
use Rattle.lb_values.specs.declared.cell.Cell.TheVariants.{Cat, Lc, Uc, Sf}
use Rattle.lb_values.specs.declared.value.Value.{Value}
use Rattle.lb_values.specs.declared.value.Value.TheVariants as value
use Rattle.lb_values.specs.Kept.{put}
use Rattle.lb_model.specs.StartState.{start_category, start_lower, start_upper, start_space_factor}
use Rattle.lb_maps.specs.CellMap.{at}
use Rattle.lb_cells.specs.StartEntries.{Entries, rows_over, codes_below, code_over}

-- one more row, before those that are laid
pub rows_over-next : {X : Type 0} (cell_of : X → Cell) (value_of : X → Value) (rows : List X) (i : ℕ) (row : X) (f : Entries) → slice_get rows i ≡ Some row
    → put (cell_of row) (Some (value_of row)) (rows_over cell_of value_of (drop (i + 1) rows) f) ≡ rows_over cell_of value_of (drop i rows) f
rows_over-next cell_of value_of rows i row f here =
    let split = drop-cons rows i row (slice_get_within rows i row here) in
    let is = get_or_from_slice_get rows i row row here in
    sym (ap (λ l. rows_over cell_of value_of l f) split
    ∙ ap (λ r. put (cell_of r) (Some (value_of r)) (rows_over cell_of value_of (drop (suc i) rows) f)) is
    ∙ ap (λ n. put (cell_of row) (Some (value_of row)) (rows_over cell_of value_of (drop n rows) f)) (sym (add-one i)))

-- a value for each code below k, and one for k
next_code : (g : ℕ → Value) (k code : ℕ) (o : Option Value) → cond (nat_eq k code) (Some (g k)) (cond (nat_lt code k) (Some (g code)) o) ≡ cond (nat_lt code (k + 1)) (Some (g code)) o
next_code g k code o = grind (arith, rules)

pub codes-next : (k : ℕ) (f : Entries) → code_over k (codes_below k f) ≡ codes_below (k + 1) f
unfolding cell_eq
codes-next k f i cell = at_cell cell i where
  at_cell : (cell : Cell) → code_over k (codes_below k f) cell ≡ codes_below (k + 1) f cell
  at_cell (Cat code) = next_code (λ n. value.Category (start_category n)) k code (f (Cat code))
  at_cell (Lc code) = next_code (λ n. value.Code (start_lower n)) k code (f (Lc code))
  at_cell (Uc code) = next_code (λ n. value.Code (start_upper n)) k code (f (Uc code))
  at_cell (Sf code) = next_code (λ n. value.Number (pos (start_space_factor n))) k code (f (Sf code))
  at_cell _ = refl

-- one more row, counting down
pub rows_over-back : {X : Type 0} (cell_of : X → Cell) (value_of : X → Value) (rows : List X) (place : ℕ) (row : X) (laid f : Entries) → 0 < place → slice_get rows (place - 1) ≡ Some row → laid ≡ rows_over cell_of value_of (drop place rows) f
    → put (cell_of row) (Some (value_of row)) laid ≡ rows_over cell_of value_of (drop (place - 1) rows) f
rows_over-back cell_of value_of rows place row laid f some here e =
    let count : place ≡ place - 1 + 1 = omega (arith, some) in
    ap (put (cell_of row) (Some (value_of row))) (e ∙ ap (λ n. rows_over cell_of value_of (drop n rows) f) count) ∙ rows_over-next cell_of value_of rows (place - 1) row f here

-- a row of a table that is another's, seen by f
pub row_of : {X Y : Type 0} (f : X → Y) (table : List X) (rows : List Y) (place : ℕ) (d : X) → rows ≡ map f table → place < length table → slice_get rows place ≡ Some (f (get_or table place d))
row_of f table rows place d same within = ap (λ l. slice_get l place) same ∙ slice_get-map f table place ∙ ap (option_map f) (slice_get-get_or table place d within)

-- the names of one row more
pub names-next : {Y : Type 0} (rows : List (List ℕ × Y)) (i : ℕ) (row : List ℕ × Y) → slice_get rows i ≡ Some row → map (λ r. r.0) (take i rows) ++ row.0 ∷ [] ≡ map (λ r. r.0) (take (i + 1) rows)
names-next rows i row here =
    let more : take (i + 1) rows ≡ take i rows ++ row ∷ [] = rw add-one (take-suc rows i row (slice_get_within rows i row here) ∙ ap (λ x. take i rows ++ x ∷ []) (get_or_from_slice_get rows i row row here)) in
    sym (ap (map (λ r. r.0)) more ∙ map-append (λ r. r.0) (take i rows) (row ∷ []))

-- a map without entries
pub at-none : at {V = Value} [] ≡ (λ _. None)
unfolding at
at-none = refl
