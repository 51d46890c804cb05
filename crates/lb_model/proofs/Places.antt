-- What a search finds among entries in the order of their keys, and what an edit at that place does to the map.
use Rattle.std.proofs.Common.{◌≡◌, ℕ, zero, suc, ◌<◌, ◌≤◌, [], ◌∷◌, List, length, get_or, set, inl, inr, Some, None, Result, Ok, Err, IfOk, IfErr, IsTrue, true, false, Bool, ◌&&◌, refl, sym, ap, subst, ◌∙◌, arith}
use mathlib.Core.Bool.{false≢true}
use lib.Dec.{T}
use Rattle.std.specs.List.{insert}
use Rattle.std.specs.List.Sorted.{IsSearchInRange, IsBinarySearchResult, IsNonDecreasingBy}
use Rattle.std.specs.Ordering.{ordering_index, ordering_reverse, is_lt}
use Rattle.std.specs.Cmp.{IsTotalOrder, alike_right}
use Rattle.std.specs.declared.cmp.Ordering.{Ordering}
use Rattle.std.specs.declared.cmp.Ordering.TheVariants.{Less, Equal, Greater}
use Rattle.std.specs.FinMap as map
use Rattle.std.specs.FinMap.{FinMap, find, put, is_sorted, same_entries_map, entries-from_sorted, entries-insert, get-from_sorted, empty_of_len, len-entries}
use Rattle.std.specs.FinMap.Entries.{below_all, is_sorted-put}
use Rattle.std.proofs.lemmas.Bool.{cases_lt}
use Rattle.lb_model.specs.Places.{IsAt, IsGapFor}

holds : (b : Bool) → IsTrue b → T b
holds b h = subst T (sym h) tt

told : (b : Bool) → T b → IsTrue b
told true h = refl
told false h = absurd h

first : (a b : Bool) → IsTrue (a && b) → IsTrue a
first true b h = refl
first false b h = h

second : (a b : Bool) → IsTrue (a && b) → IsTrue b
second true b h = h
second false b h = absurd (false≢true h)

less : (r : Ordering) → IsTrue (is_lt r) → r ≡ Less
less Less h = refl
less Equal h = absurd (false≢true h)
less Greater h = absurd (false≢true h)

-- the map of a list in order, as its entries say
module _ {K X : Type 0} {R : K → K → Ordering} where
  pub from_sorted_nil : map.from_sorted {X = X} {R = R} [] ≡ map.empty
  from_sorted_nil = empty_of_len _ (len-entries _ ∙ ap length (entries-from_sorted R [] tt))

module _ {K X : Type 0} (R : K → K → Ordering) where
  -- m is the map of es, as a view says it
  pub entries_are : (es : List (K × X)) {m : FinMap R X} → IsTrue (is_sorted R es) → map.from_sorted es ≡ m → map.entries m ≡ es
  entries_are es sorted is = ap map.entries (sym is) ∙ entries-from_sorted R es (holds _ sorted)

  pub get_is_find : (es : List (K × X)) {m : FinMap R X} (k : K) → IsTrue (is_sorted R es) → map.from_sorted es ≡ m → map.get m k ≡ find R k es
  get_is_find es k sorted is = ap (λ n. map.get n k) (sym is) ∙ get-from_sorted R es k (holds _ sorted)

module _ {K X : Type 0} {R : K → K → Ordering} (o : IsTotalOrder R) where
  pub sorted_put : (es : List (K × X)) (k : K) (v : X) → IsTrue (is_sorted R es) → IsTrue (is_sorted R (put R k v es))
  sorted_put es k v sorted = told _ (is_sorted-put R o k v es (holds _ sorted))

  pub from_sorted_put : (es : List (K × X)) {m : FinMap R X} (k : K) (v : X) → IsTrue (is_sorted R es) → map.from_sorted es ≡ m → map.from_sorted (put R k v es) ≡ map.insert m k v
  from_sorted_put es {m} k v sorted is = same_entries_map _ _ (entries_are R _ (sorted_put es k v sorted) refl ∙ sym (entries-insert o m k v ∙ ap (put R k v) (entries_are R es sorted is)))

module _ {K X : Type 0} (R : K → K → Ordering) where
  below_at : (x : K) (es : List (K × X)) → IsTrue (below_all R x es) → (j : ℕ) (d : K × X) → j < length es → R x (get_or es j d).0 ≡ Less
  below_at x [] below j d lt = absurd (omega arith)
  below_at x (e ∷ es) below zero d lt = less _ (first _ _ below)
  below_at x (e ∷ es) below (suc j) d lt = below_at x es (second _ _ below) j d (omega arith)

  rises : (es : List (K × X)) → IsTrue (is_sorted R es) → (i j : ℕ) (d : K × X) → i < j → j < length es → R (get_or es i d).0 (get_or es j d).0 ≡ Less
  rises [] sorted i j d lt in_range = absurd (omega arith)
  rises (e ∷ es) sorted i zero d lt in_range = absurd (omega arith)
  rises (e ∷ es) sorted zero (suc j) d lt in_range = below_at e.0 es (first _ _ sorted) j d (omega arith)
  rises (e ∷ es) sorted (suc i) (suc j) d lt in_range = rises es (second _ _ sorted) i j d (omega arith) (omega arith)

module _ {K : Type 0} {R : K → K → Ordering} (o : IsTotalOrder R) where
  turned : (x y : K) {r : Ordering} → R x y ≡ r → R y x ≡ ordering_reverse r
  turned x y e = o.antisymm y x ∙ ap ordering_reverse e

  -- the greater of two keys compares with a third no lower than the less one
  index_rises : (x y k : K) → R x y ≡ Less → ordering_index (R x k) ≤ ordering_index (R y k)
  index_rises x y k lt = elim (R x k) as (λ r. R x k ≡ r → ordering_index r ≤ ordering_index (R y k)) [
    | Less ↦ λ e. omega arith
    | Equal ↦ λ e. rw (turned k y (sym (o.congr x k y e) ∙ lt)) (omega arith)
    | Greater ↦ λ e. rw (turned k y (o.trans k x y (turned x k e) lt)) (omega arith)
  ] refl

-- the first at entries have smaller keys
abbrev KeysBelow : {K X : Type 0} → (K → K → Ordering) → List (K × X) → K → ℕ → Type 0
KeysBelow {K} {X} R es k at = (j : ℕ) (d : K × X) → j < at → R (get_or es j d).0 k ≡ Less

module _ {K X : Type 0} {R : K → K → Ordering} (o : IsTotalOrder R) where
  indices_rise : (es : List (K × X)) (k : K) → IsTrue (is_sorted R es) → IsNonDecreasingBy (λ e. ordering_index (R e.0 k)) es
  indices_rise es k sorted i j d le in_range = elim (cases_lt i j) [
    | inl lt ↦ index_rises o _ _ k (rises R es sorted i j d lt in_range)
    | inr ge ↦ let same : i ≡ j = omega arith in rw same (omega arith)
  ]

  -- a binary search ends at the key, or at the gap for it
  pub searched : (es : List (K × X)) → IsTrue (is_sorted R es) → (k : K) (r : Result ℕ ℕ) → IsSearchInRange r (length es) → IsBinarySearchResult (λ e. R e.0 k) es r
      → record { found : IfOk r (IsAt R es k); absent : IfErr r (IsGapFor R es k) }
  searched es sorted k (Ok at) in_range equal = record { found = record { in_range = in_range; has_key = equal }; absent = tt }
  searched es sorted k (Err at) in_range parted =
      let parts = parted (indices_rise es k sorted) in
      record { found = tt; absent = record { in_range = in_range; less_before = λ j d lt. parts.0 j d (omega arith) lt; greater_after = parts.1 } }

  keys_below : (es : List (K × X)) (k : K) (at : ℕ) → IsTrue (is_sorted R es) → IsAt R es k at → KeysBelow R es k at
  keys_below es k at sorted is_at j d lt = sym (alike_right o _ k _ (is_at.has_key d)) ∙ rises R es sorted j at d lt is_at.in_range

  at_tail : (e : K × X) (es : List (K × X)) (k : K) (at : ℕ) → IsAt R (e ∷ es) k (suc at) → IsAt R es k at
  at_tail e es k at is_at = record { in_range = omega (arith, is_at.in_range); has_key = is_at.has_key }

  below_tail : (e : K × X) (es : List (K × X)) (k : K) (at : ℕ) → KeysBelow R (e ∷ es) k (suc at) → KeysBelow R es k at
  below_tail e es k at below j d lt = below (suc j) d (omega arith)

  put_set_below : (es : List (K × X)) (k : K) (v : X) (at : ℕ) → KeysBelow R es k at → IsAt R es k at → (d : K × X) → set es at ((get_or es at d).0, v) ≡ put R k v es
  put_set_below [] k v at below is_at d = absurd (omega (arith, is_at.in_range))
  put_set_below (e ∷ es) k v zero below is_at d = rw (turned o e.0 k (is_at.has_key d)) refl
  put_set_below (e ∷ es) k v (suc at) below is_at d = rw (turned o e.0 k (below 0 d (omega arith))) (ap (λ l. e ∷ l) (put_set_below es k v at (below_tail e es k at below) (at_tail e es k at is_at) d))

  -- a value written at the key's place, where e is the entry there, in the form that an index gives
  pub put_set : (es : List (K × X)) (k : K) (v : X) (at : ℕ) → IsTrue (is_sorted R es) → IsAt R es k at → (e : K × X) → e ≡ get_or es at e → set es at (e.0, v) ≡ put R k v es
  put_set es k v at sorted is_at e is = ap (λ (x : K × X). set es at (x.0, v)) is ∙ put_set_below es k v at (keys_below es k at sorted is_at) is_at e

  find_below : (es : List (K × X)) (k : K) (at : ℕ) → KeysBelow R es k at → IsAt R es k at → (d : K × X) → find R k es ≡ Some (get_or es at d).1
  find_below [] k at below is_at d = absurd (omega (arith, is_at.in_range))
  find_below (e ∷ es) k zero below is_at d = rw (turned o e.0 k (is_at.has_key d)) refl
  find_below (e ∷ es) k (suc at) below is_at d = rw (turned o e.0 k (below 0 d (omega arith))) (find_below es k at (below_tail e es k at below) (at_tail e es k at is_at) d)

  pub find_at : (es : List (K × X)) (k : K) (at : ℕ) → IsTrue (is_sorted R es) → IsAt R es k at → (e : K × X) → e ≡ get_or es at e → find R k es ≡ Some e.1
  find_at es k at sorted is_at e is = find_below es k at (keys_below es k at sorted is_at) is_at e ∙ ap (λ (x : K × X). Some x.1) (sym is)

  gap_tail : (e : K × X) (es : List (K × X)) (k : K) (at : ℕ) → IsGapFor R (e ∷ es) k (suc at) → IsGapFor R es k at
  gap_tail e es k at gap = record {
    in_range = omega (arith, gap.in_range);
    less_before = λ j d lt. gap.less_before (suc j) d (omega arith);
    greater_after = λ j d le lt. gap.greater_after (suc j) d (omega arith) (omega arith);
  }

  gap_all : (e : K × X) (es : List (K × X)) (k : K) → IsGapFor R (e ∷ es) k 0 → IsGapFor R es k 0
  gap_all e es k gap = record {
    in_range = omega arith;
    less_before = λ j d lt. absurd (omega arith);
    greater_after = λ j d le lt. gap.greater_after (suc j) d (omega arith) (omega arith);
  }

  -- a new entry in the gap
  pub put_insert : (es : List (K × X)) (k : K) (v : X) (at : ℕ) → IsGapFor R es k at → insert es at (k, v) ≡ put R k v es
  put_insert [] k v zero gap = refl
  put_insert [] k v (suc at) gap = absurd (omega (arith, gap.in_range))
  put_insert (e ∷ es) k v zero gap = rw (turned o e.0 k (gap.greater_after 0 e (omega arith) (omega arith))) refl
  put_insert (e ∷ es) k v (suc at) gap = rw (turned o e.0 k (gap.less_before 0 e (omega arith))) (ap (λ l. e ∷ l) (put_insert es k v at (gap_tail e es k at gap)))

  pub find_gap : (es : List (K × X)) (k : K) (at : ℕ) → IsGapFor R es k at → find R k es ≡ None
  find_gap [] k at gap = refl
  find_gap (e ∷ es) k zero gap = rw (turned o e.0 k (gap.greater_after 0 e (omega arith) (omega arith))) (find_gap es k zero (gap_all e es k gap))
  find_gap (e ∷ es) k (suc at) gap = rw (turned o e.0 k (gap.less_before 0 e (omega arith))) (find_gap es k at (gap_tail e es k at gap))
