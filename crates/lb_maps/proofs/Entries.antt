-- Entries with one more at their end, and entries for all of a list.
use Rattle.std.proofs.Common.{◌≡◌, ℕ, ◌+◌, Bool, true, false, cond, List, [], ◌∷◌, ◌++◌, Option, Some, None, take, slice_get, add-one, refl, ap, sym, ◌∙◌}
use Rattle.std.proofs.Math.Seq.{take-suc}
use Rattle.std.proofs.lemmas.Option.{get_or_from_slice_get, slice_get_within}
use Rattle.std.specs.Prelude.{IfSome, is_some}
use Rattle.lb_values.specs.Cells.{cell_eq}
use Rattle.lb_values.proofs.SameCells.{cell_eq-refl, cell_eq-true}
use Rattle.lb_values.specs.declared.cell.Cell.{Cell}
use Rattle.lb_maps.specs.CellMap.{at, KeepsEntries}
use Rattle.lb_maps.specs.Slots.{filled}
use Rattle.lb_maps.proofs.Tabled.{at-append, filled-append, or_else}

some_of : {V : Type 0} (b : Bool) (v : V) (o o' : Option V) → (is_some o ≡ true → is_some o' ≡ true) → is_some (cond b (Some v) o) ≡ true → is_some (cond b (Some v) o') ≡ true
some_of true v o o' f h = refl
some_of false v o o' f h = f h

-- the last entry's cell has one
pub last_there : {V : Type 0} (es : List (Cell × V)) (e : Cell × V) → is_some (at (es ++ e ∷ []) e.0) ≡ true
unfolding at
last_there [] e = ap (λ b. is_some (cond b (Some e.1) None)) (cell_eq-refl e.0)
last_there (x ∷ es) e = some_of (cell_eq e.0 x.0) x.1 (Some x.1) _ (λ h. last_there es e) (always (cell_eq e.0 x.0) x.1) where
  always : {V : Type 0} (b : Bool) (v : V) → is_some (cond b (Some v) (Some v)) ≡ true
  always true v = refl
  always false v = refl

-- one more entry takes none away
pub keeps-more : {V : Type 0} (es : List (Cell × V)) (e : Cell × V) → KeepsEntries es (es ++ e ∷ [])
unfolding at
keeps-more [] e q h = absurd (cc)
keeps-more (x ∷ es) e q h = some_of (cell_eq q x.0) x.1 (at es q) (at (es ++ e ∷ []) q) (keeps-more es e q) h

with_first : {V : Type 0} {P : Type 0} (b : Bool) (v : V) (o o' : Option V) → (is_some (cond b (Some v) o) ≡ true → P) → ((is_some o ≡ true → P) → is_some o' ≡ true → P) → is_some (cond b (Some v) o') ≡ true → P
with_first true v o o' first rest h = first refl
with_first false v o o' first rest h = rest first h

last_or_before : {V : Type 0} {P : Type 0} (es : List (Cell × V)) (e : Cell × V) (q : Cell) → (is_some (at es q) ≡ true → P) → (cell_eq q e.0 ≡ true → P) → is_some (at (es ++ e ∷ []) q) ≡ true → P
unfolding at
last_or_before [] e q before last h = last (passes (cell_eq q e.0) e.1 h) where
  passes : {V : Type 0} (b : Bool) (v : V) → is_some (cond b (Some v) None) ≡ true → b ≡ true
  passes true v h = refl
  passes false v h = absurd (cc)
last_or_before (x ∷ es) e q before last h = with_first (cell_eq q x.0) x.1 (at es q) (at (es ++ e ∷ []) q) before (λ b. last_or_before es e q b last) h

-- entries for all cells but the last, and one for the last
pub keeps-snoc : {V : Type 0} (es : List (Cell × V)) (e : Cell × V) (entries : List (Cell × V)) → KeepsEntries es entries → is_some (at entries e.0) ≡ true → KeepsEntries (es ++ e ∷ []) entries
keeps-snoc es e entries k there q h = last_or_before es e q (k q) (λ same. ap (λ c. is_some (at entries c)) (cell_eq-true q e.0 same) ∙ there) h

-- entries for one more of the writes
pub keeps-next : {V : Type 0} (writes : List (Cell × V)) (i : ℕ) (e : Cell × V) (entries : List (Cell × V)) → slice_get writes i ≡ Some e → KeepsEntries (take i writes) entries → is_some (at entries e.0) ≡ true
    → KeepsEntries (take (i + 1) writes) entries
keeps-next writes i e entries here k there q h =
    let more : take (i + 1) writes ≡ take i writes ++ e ∷ [] = rw add-one (take-suc writes i e (slice_get_within writes i e here) ∙ ap (λ x. take i writes ++ x ∷ []) (get_or_from_slice_get writes i e e here)) in
    keeps-snoc (take i writes) e entries k there q (sym (ap (λ w. is_some (at w q)) more) ∙ h)

-- no write
pub keeps-none : {V : Type 0} (entries : List (Cell × V)) → KeepsEntries [] entries
unfolding at
keeps-none entries q h = absurd (cc)

-- entries for one list and another
either : {X : Type 0} {P : Type 0} (o p : Option X) → (is_some o ≡ true → P) → (is_some p ≡ true → P) → is_some (or_else o p) ≡ true → P
either (Some x) p f g h = f refl
either None p f g h = g h

pub keeps-append : {V : Type 0} (xs ys entries : List (Cell × V)) → KeepsEntries xs entries → KeepsEntries ys entries → KeepsEntries (xs ++ ys) entries
keeps-append xs ys entries k m q h = either (at xs q) (at ys q) (k q) (m q) (ap is_some (sym (at-append xs ys q)) ∙ h)

-- entries for one more of the slots
slot-kept : {V : Type 0} (s : Option (Cell × V)) (entries : List (Cell × V)) (front : List (Cell × V)) → KeepsEntries front entries → IfSome s (λ e. is_some (at entries e.0) ≡ true) → KeepsEntries (front ++ filled (s ∷ [])) entries
slot-kept None entries front k there q h = k q (ap (λ l. is_some (at l q)) (sym (plain front)) ∙ h) where
  plain : {X : Type 0} (xs : List X) → xs ++ [] ≡ xs
  plain [] = refl
  plain (x ∷ xs) = ap (λ l. x ∷ l) (plain xs)
slot-kept (Some e) entries front k there q h = keeps-snoc front e entries k there q h

pub keeps-slot : {V : Type 0} (slots : List (Option (Cell × V))) (i : ℕ) (s : Option (Cell × V)) (entries : List (Cell × V)) → slice_get slots i ≡ Some s → KeepsEntries (filled (take i slots)) entries
    → IfSome s (λ e. is_some (at entries e.0) ≡ true) → KeepsEntries (filled (take (i + 1) slots)) entries
keeps-slot slots i s entries here k there q h =
    let more : take (i + 1) slots ≡ take i slots ++ s ∷ [] = rw add-one (take-suc slots i s (slice_get_within slots i s here) ∙ ap (λ x. take i slots ++ x ∷ []) (get_or_from_slice_get slots i s s here)) in
    slot-kept s entries (filled (take i slots)) k there q (ap (λ l. is_some (at l q)) (sym (filled-append (take i slots) (s ∷ [])) ∙ ap filled (sym more)) ∙ h)
