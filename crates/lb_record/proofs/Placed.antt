-- Pairs are found by what is known of their cells.
use Rattle.std.proofs.Common.{◌≡◌, ℕ, zero, suc, ◌+◌, ◌<◌, Bool, true, false, not, cond, List, [], ◌∷◌, ◌++◌, Option, Some, None, length, slice_get, refl, ap, sym, subst, ◌∙◌, arith}
use Rattle.std.proofs.lemmas.List.{length-append}
use Rattle.std.specs.Option.{option_map}
use Rattle.lb_values.specs.Cells.{cell_eq}
use Rattle.lb_values.proofs.SameCells.{cell_eq-equiv, cell_eq-refl, cell_eq-true}
use Rattle.lb_values.specs.declared.cell.Cell.{Cell}
use Rattle.lb_values.specs.declared.value.Value.{Value}
use Rattle.lb_values.specs.Kept.{put}
use Rattle.lb_model.specs.Ranges.{is_settable}
use Rattle.lb_maps.specs.CellMap.{at}
use Rattle.lb_maps.proofs.Tabled.{at-snoc}
use Rattle.lb_record.specs.declared.known.Known.{Known}
use Rattle.lb_record.specs.Recording.{ArePlaced, IsWrite, known_of, value_at}

-- nothing is known of no cell
pub placed-none : ArePlaced [] []
unfolding at
placed-none = record { within = λ cell place h. cc; finds = λ cell. refl }

-- places alone count
pub placed-alike : (old new : List (Cell × Known)) (pairs : List (Cell × Value)) → ((cell : Cell) → (known_of new cell).place ≡ (known_of old cell).place) → ArePlaced old pairs → ArePlaced new pairs
placed-alike old new pairs same a = record {
  within = λ cell place h. a.within cell place (sym (same cell) ∙ h);
  finds = λ cell. ap (value_at pairs) (same cell) ∙ a.finds cell;
}

-- a pair more does not move the others
get-before : (pairs : List (Cell × Value)) (e : Cell × Value) (n : ℕ) → n < length pairs → slice_get (pairs ++ e ∷ []) n ≡ slice_get pairs n
get-before [] e n h = absurd (omega (arith, h))
get-before (p ∷ pairs) e zero h = refl
get-before (p ∷ pairs) e (suc n) h = get-before pairs e n (omega (arith, h))

get-last : (pairs : List (Cell × Value)) (e : Cell × Value) → slice_get (pairs ++ e ∷ []) (length pairs) ≡ Some e
get-last [] e = refl
get-last (p ∷ pairs) e = get-last pairs e

value-before : (pairs : List (Cell × Value)) (e : Cell × Value) (o : Option ℕ) → ((n : ℕ) → o ≡ Some n → n < length pairs) → value_at (pairs ++ e ∷ []) o ≡ value_at pairs o
value-before pairs e None h = refl
value-before pairs e (Some n) h = ap (option_map (λ pair. pair.1)) (get-before pairs e n (h n refl))

more_within : (pairs : List (Cell × Value)) (e : Cell × Value) (k f : Known) (place : ℕ) (b : Bool) → k.place ≡ Some (length pairs) → (cond b k f).place ≡ Some place → (f.place ≡ Some place → place < length pairs)
    → place < length (pairs ++ e ∷ [])
more_within pairs e k f place true here h before = let is : length pairs ≡ place = some_same (sym here ∙ h) in omega (arith, is, length-append pairs (e ∷ [])) where
  some_same : {m n : ℕ} → Some m ≡ Some n → m ≡ n
  some_same h = cc
more_within pairs e k f place false here h before = omega (arith, before h, length-append pairs (e ∷ []))

more_finds : (pairs : List (Cell × Value)) (e : Cell × Value) (k f : Known) (o : Option Value) (b : Bool) → k.place ≡ Some (length pairs) → ((n : ℕ) → f.place ≡ Some n → n < length pairs) → value_at pairs f.place ≡ o
    → value_at (pairs ++ e ∷ []) (cond b k f).place ≡ cond b (Some e.1) o
more_finds pairs e k f o true here within finds = ap (value_at (pairs ++ e ∷ [])) here ∙ ap (option_map (λ pair. pair.1)) (get-last pairs e)
more_finds pairs e k f o false here within finds = value-before pairs e f.place within ∙ finds

-- one pair more, of a cell that has none
pub placed-more : (old new : List (Cell × Known)) (pairs : List (Cell × Value)) (c : Cell) (v : Value) (k : Known) → at pairs c ≡ None → known_of new ≡ put c k (known_of old) → k.place ≡ Some (length pairs) → ArePlaced old pairs
    → ArePlaced new (pairs ++ (c, v) ∷ [])
placed-more old new pairs c v k none is here a = record {
  within = λ q place h. more_within pairs (c, v) k (known_of old q) place (cell_eq c q) here (ap (λ f. (f q).place) (sym is) ∙ h) (a.within q place);
  finds = λ q. ap (λ f. value_at (pairs ++ (c, v) ∷ []) (f q).place) is
      ∙ more_finds pairs (c, v) k (known_of old q) (at pairs q) (cell_eq c q) here (a.within q) (a.finds q) ∙ sym (ap (λ f. f q) (at-snoc pairs (c, v) none));
}

-- what is known to be written stays known
pub write-alike : (old new : List (Cell × Known)) → ((cell : Cell) → (known_of old cell).written ≡ true → (known_of new cell).written ≡ true) → (cell : Cell) (write : Option Value) → IsWrite old cell write → IsWrite new cell write
write-alike old new same cell None w = tt
write-alike old new same cell (Some value) w = (w.0, same cell w.1)

-- a cell that is known to be written is so already
marked_at : (cell q : Cell) (f : Cell → Known) (b : Bool) → (b ≡ true → cell ≡ q) → (f cell).written ≡ true → f q ≡ cond b (record (f cell) { written = true }) (f q)
marked_at cell q f true same h = ap f (sym (same refl)) ∙ (λ i. record { place = (f cell).place; written = h i })
marked_at cell q f false same h = refl

pub not-false : (b : Bool) → not b ≡ false → b ≡ true
not-false true h = refl
not-false false h = cc

pub marked-already : (f : Cell → Known) (cell : Cell) → (f cell).written ≡ true → f ≡ put cell (record (f cell) { written = true }) f
marked-already f cell h = λ i q. marked_at cell q f (cell_eq cell q) (cell_eq-true cell q) h i
