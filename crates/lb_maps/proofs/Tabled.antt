-- What entries in slots and entries found by their hash hold together.
use Rattle.std.proofs.Common.{◌≡◌, ℕ, zero, suc, ◌+◌, ◌<◌, ◌≤◌, Bool, true, false, cond, List, [], ◌∷◌, ◌++◌, Option, Some, None, option_map, get_or, set, length, refl, sym, ap, subst, ◌∙◌, arith}
use Rattle.lb_values.specs.Cells.{cell_eq}
use Rattle.lb_values.specs.declared.cell.Cell.{Cell}
use Rattle.lb_values.specs.Kept.{put}
use Rattle.lb_maps.specs.CellMap.{at}
use Rattle.lb_maps.specs.Slots.{ArePlaced, HaveNoSlots, filled, in_slot, slot_of}
use Rattle.lb_values.proofs.SameCells.{cell_eq-equiv, cell_eq-refl, cell_eq-true}
use Rattle.lb_maps.proofs.OneSlot.{same_slot, other_slot}

abbrev pub by_slot : {V : Type 0} → Option ℕ → List (Option (Cell × V)) → Option V → Option V
by_slot (Some i) slots other = in_slot slots i
by_slot None slots other = other

-- what a table and entries hold at a cell
abbrev pub seen : {V : Type 0} → List (Option (Cell × V)) → List (Cell × V) → Cell → Option V
seen slots entries cell = by_slot (slot_of cell) slots (at entries cell)

abbrev pub or_else : {X : Type 0} → Option X → Option X → Option X
or_else (Some x) other = Some x
or_else None other = other

-- entries behind others
pub at-append : {V : Type 0} (xs ys : List (Cell × V)) (q : Cell) → at (xs ++ ys) q ≡ or_else (at xs q) (at ys q)
unfolding at
at-append [] ys q = refl
at-append (x ∷ xs) ys q = first (cell_eq q x.0) x.1 (at (xs ++ ys) q) (at xs q) (at ys q) (at-append xs ys q) where
  first : {V : Type 0} (b : Bool) (v : V) (all o p : Option V) → all ≡ or_else o p → cond b (Some v) all ≡ or_else (cond b (Some v) o) p
  first true v all o p e = refl
  first false v all o p e = e

passed : {V : Type 0} (b : Bool) (v : V) (o : Option V) → b ≡ false → o ≡ None → cond b (Some v) o ≡ None
passed true v o h e = absurd (cc)
passed false v o h e = e

taken : {V : Type 0} (b : Bool) (v : V) (o : Option V) → b ≡ true → cond b (Some v) o ≡ Some v
taken true v o h = refl
taken false v o h = absurd (cc)

skipped : {V : Type 0} (b : Bool) (v : V) (o p : Option V) → b ≡ false → o ≡ p → cond b (Some v) o ≡ p
skipped true v o p h e = absurd (cc)
skipped false v o p h e = e

-- a cell of a slot before a table's first has no entry there
filled-before : {V : Type 0} (n k : ℕ) (slots : List (Option (Cell × V))) (q : Cell) → ArePlaced n slots → slot_of q ≡ Some k → k < n → at (filled slots) q ≡ None
unfolding at
filled-before n k [] q a h lt = refl
filled-before n k (None ∷ slots) q a h lt = filled-before (suc n) k slots q a h (omega (arith, lt))
filled-before n k (Some e ∷ slots) q a h lt =
    passed (cell_eq q e.0) e.1 (at (filled slots) q) (other_slot q e.0 (λ same. apart k n (sym h ∙ same ∙ a.0) lt)) (filled-before (suc n) k slots q a.1 h (omega (arith, lt))) where
      apart : (k n : ℕ) → Some k ≡ Some n → k < n → ⊥
      apart k n e lt = let is : k ≡ n = cc in omega (arith, is, lt)

filled-none : {V : Type 0} (n : ℕ) (slots : List (Option (Cell × V))) (q : Cell) → ArePlaced n slots → slot_of q ≡ None → at (filled slots) q ≡ None
unfolding at
filled-none n [] q a h = refl
filled-none n (None ∷ slots) q a h = filled-none (suc n) slots q a h
filled-none n (Some e ∷ slots) q a h =
    passed (cell_eq q e.0) e.1 (at (filled slots) q) (other_slot q e.0 (λ same. none n (sym h ∙ same ∙ a.0))) (filled-none (suc n) slots q a.1 h) where
      none : (n : ℕ) → None ≡ Some n → ⊥
      none n e = cc

filled-at : {V : Type 0} (n i : ℕ) (slots : List (Option (Cell × V))) (q : Cell) → ArePlaced n slots → slot_of q ≡ Some (n + i) → at (filled slots) q ≡ in_slot slots i
unfolding at
filled-at n i [] q a h = refl
filled-at n zero (None ∷ slots) q a h = filled-before (suc n) n slots q a (h ∙ ap Some (here n)) (omega arith) where
  here : (n : ℕ) → n + zero ≡ n
  here n = omega arith
filled-at n (suc i) (None ∷ slots) q a h = filled-at (suc n) i slots q a (h ∙ ap Some (next n i)) where
  next : (n i : ℕ) → n + suc i ≡ suc n + i
  next n i = omega arith
filled-at n zero (Some e ∷ slots) q a h = taken (cell_eq q e.0) e.1 (at (filled slots) q) (same_slot q e.0 n (h ∙ ap Some (here n)) a.0) where
  here : (n : ℕ) → n + zero ≡ n
  here n = omega arith
filled-at n (suc i) (Some e ∷ slots) q a h =
    skipped (cell_eq q e.0) e.1 (at (filled slots) q) (in_slot slots i) (other_slot q e.0 (λ same. apart n i (sym h ∙ same ∙ a.0)))
    (filled-at (suc n) i slots q a.1 (h ∙ ap Some (next n i))) where
      apart : (n i : ℕ) → Some (n + suc i) ≡ Some n → ⊥
      apart n i e = let is : n + suc i ≡ n = cc in omega (arith, is)

      next : (n i : ℕ) → n + suc i ≡ suc n + i
      next n i = omega arith

-- all entries of a map
seen_at : {V : Type 0} (slots : List (Option (Cell × V))) (entries : List (Cell × V)) (q : Cell) (o : Option ℕ) → slot_of q ≡ o → ArePlaced 0 slots → HaveNoSlots (at entries)
    → or_else (at (filled slots) q) (at entries q) ≡ by_slot o slots (at entries q)
seen_at slots entries q (Some i) h a none =
    ap (λ o. or_else o (at entries q)) (filled-at 0 i slots q a (h ∙ ap Some (from_zero i))) ∙ ap (or_else (in_slot slots i)) (none q i h) ∙ alone (in_slot slots i) where
      from_zero : (i : ℕ) → i ≡ 0 + i
      from_zero i = omega arith

      alone : {X : Type 0} (o : Option X) → or_else o None ≡ o
      alone (Some x) = refl
      alone None = refl
seen_at slots entries q None h a none = ap (λ o. or_else o (at entries q)) (filled-none 0 slots q a h)

pub at-seen : {V : Type 0} (slots : List (Option (Cell × V))) (entries : List (Cell × V)) → ArePlaced 0 slots → HaveNoSlots (at entries) → at (filled slots ++ entries) ≡ seen slots entries
at-seen slots entries a none i q = (at-append (filled slots) entries q ∙ seen_at slots entries q (slot_of q) refl a none) i

pub none-placed : {V : Type 0} → HaveNoSlots {V = V} (at [])
unfolding at
none-placed cell slot h = refl

-- ---- One more slot

pub filled-push : {V : Type 0} (slots : List (Option (Cell × V))) → filled (slots ++ None ∷ []) ≡ filled slots
filled-push [] = refl
filled-push (None ∷ slots) = filled-push slots
filled-push (Some e ∷ slots) = ap (λ l. e ∷ l) (filled-push slots)

pub placed-push : {V : Type 0} (n : ℕ) (slots : List (Option (Cell × V))) → ArePlaced n slots → ArePlaced n (slots ++ None ∷ [])
placed-push n [] a = tt
placed-push n (None ∷ slots) a = placed-push (suc n) slots a
placed-push n (Some e ∷ slots) a = (a.0, placed-push (suc n) slots a.1)

pub in_slot-push : {V : Type 0} (slots : List (Option (Cell × V))) (i : ℕ) → in_slot (slots ++ None ∷ []) i ≡ in_slot slots i
in_slot-push [] zero = refl
in_slot-push [] (suc i) = refl
in_slot-push (s ∷ slots) zero = refl
in_slot-push (s ∷ slots) (suc i) = in_slot-push slots i

pub in_slot-past : {V : Type 0} (slots : List (Option (Cell × V))) (i : ℕ) → length slots ≤ i → in_slot slots i ≡ None
in_slot-past [] i h = refl
in_slot-past (s ∷ slots) zero h = absurd (omega (arith, h))
in_slot-past (s ∷ slots) (suc i) h = in_slot-past slots i (omega (arith, h))

-- ---- An entry in its slot

pub placed-set : {V : Type 0} (n i : ℕ) (slots : List (Option (Cell × V))) (e : Cell × V) → slot_of e.0 ≡ Some (n + i) → ArePlaced n slots → ArePlaced n (set slots i (Some e))
placed-set n i [] e h a = tt
placed-set n zero (None ∷ slots) e h a = (h ∙ ap Some (here n), a) where
  here : (n : ℕ) → n + zero ≡ n
  here n = omega arith
placed-set n zero (Some d ∷ slots) e h a = (h ∙ ap Some (here n), a.1) where
  here : (n : ℕ) → n + zero ≡ n
  here n = omega arith
placed-set n (suc i) (None ∷ slots) e h a = placed-set (suc n) i slots e (h ∙ ap Some (next n i)) a where
  next : (n i : ℕ) → n + suc i ≡ suc n + i
  next n i = omega arith
placed-set n (suc i) (Some d ∷ slots) e h a = (a.0, placed-set (suc n) i slots e (h ∙ ap Some (next n i)) a.1) where
  next : (n i : ℕ) → n + suc i ≡ suc n + i
  next n i = omega arith

in_slot-set : {V : Type 0} (slots : List (Option (Cell × V))) (i : ℕ) (e : Cell × V) → i < length slots → in_slot (set slots i (Some e)) i ≡ Some e.1
in_slot-set [] i e lt = absurd (omega (arith, lt))
in_slot-set (s ∷ slots) zero e lt = refl
in_slot-set (s ∷ slots) (suc i) e lt = in_slot-set slots i e (omega (arith, lt))

in_slot-other : {V : Type 0} (slots : List (Option (Cell × V))) (i j : ℕ) (e : Cell × V) → (i ≡ j → ⊥) → in_slot (set slots i (Some e)) j ≡ in_slot slots j
in_slot-other [] i j e n = refl
in_slot-other (s ∷ slots) zero zero e n = absurd (n refl)
in_slot-other (s ∷ slots) zero (suc j) e n = refl
in_slot-other (s ∷ slots) (suc i) zero e n = refl
in_slot-other (s ∷ slots) (suc i) (suc j) e n = in_slot-other slots i j e (λ same. n (ap suc same))

put_there : {V : Type 0} (slots : List (Option (Cell × V))) (i : ℕ) (c q : Cell) (v : V) (other : Option V) (o : Option ℕ) → i < length slots → slot_of c ≡ Some i → slot_of q ≡ o
    → (b : Bool) → cell_eq c q ≡ b → by_slot o (set slots i (Some (c, v))) other ≡ cond b (Some v) (by_slot o slots other)
put_there slots i c q v other (Some j) lt h k true t =
    let one : i ≡ j = some i j (sym h ∙ ap slot_of (cell_eq-true c q t) ∙ k) in
    subst (λ m. in_slot (set slots i (Some (c, v))) m ≡ Some v) one (in_slot-set slots i (c, v) lt) where
      some : (i j : ℕ) → Some i ≡ Some j → i ≡ j
      some i j e = cc
put_there slots i c q v other None lt h k true t = absurd (none i (sym h ∙ ap slot_of (cell_eq-true c q t) ∙ k)) where
  none : (i : ℕ) → Some i ≡ None → ⊥
  none i e = cc
put_there slots i c q v other (Some j) lt h k false t =
    in_slot-other slots i j (c, v) (λ same. unlike (cell_eq c q) t (same_slot c q j (h ∙ ap Some same) k)) where
      unlike : (b : Bool) → b ≡ false → b ≡ true → ⊥
      unlike b x y = cc
put_there slots i c q v other None lt h k false t = refl

pub seen-set : {V : Type 0} (slots : List (Option (Cell × V))) (entries : List (Cell × V)) (i : ℕ) (c : Cell) (v : V) → i < length slots → slot_of c ≡ Some i
    → seen (set slots i (Some (c, v))) entries ≡ put c (Some v) (seen slots entries)
seen-set slots entries i c v lt h j q = put_there slots i c q v (at entries q) (slot_of q) lt h refl (cell_eq c q) refl j

-- ---- An entry found by its hash

put_hashed : {V : Type 0} (slots : List (Option (Cell × V))) (c q : Cell) (v : V) (other : Option V) (o : Option ℕ) → slot_of c ≡ None → slot_of q ≡ o
    → (b : Bool) → cell_eq c q ≡ b → by_slot o slots (cond b (Some v) other) ≡ cond b (Some v) (by_slot o slots other)
put_hashed slots c q v other (Some j) h k true t = absurd (none j (sym h ∙ ap slot_of (cell_eq-true c q t) ∙ k)) where
  none : (i : ℕ) → None ≡ Some i → ⊥
  none i e = cc
put_hashed slots c q v other None h k true t = refl
put_hashed slots c q v other (Some j) h k false t = refl
put_hashed slots c q v other None h k false t = refl

pub seen-hashed : {V : Type 0} (slots : List (Option (Cell × V))) (old new : List (Cell × V)) (c : Cell) (v : V) → slot_of c ≡ None → at new ≡ put c (Some v) (at old)
    → seen slots new ≡ put c (Some v) (seen slots old)
seen-hashed slots old new c v h e j q = (ap (λ f. by_slot (slot_of q) slots (f q)) e ∙ put_hashed slots c q v (at old q) (slot_of q) h refl (cell_eq c q) refl) j

still_none : {V : Type 0} (c q : Cell) (v : V) (o : Option V) (slot : ℕ) → slot_of c ≡ None → slot_of q ≡ Some slot → o ≡ None → (b : Bool) → cell_eq c q ≡ b → cond b (Some v) o ≡ None
still_none c q v o slot h k n true t = absurd (none slot (sym h ∙ ap slot_of (cell_eq-true c q t) ∙ k)) where
  none : (i : ℕ) → None ≡ Some i → ⊥
  none i e = cc
still_none c q v o slot h k n false t = n

pub no-slots-put : {V : Type 0} (old new : List (Cell × V)) (c : Cell) (v : V) → slot_of c ≡ None → at new ≡ put c (Some v) (at old) → HaveNoSlots (at old) → HaveNoSlots (at new)
no-slots-put old new c v h e none q slot k = ap (λ f. f q) e ∙ still_none c q v (at old q) slot h k (none q slot k) (cell_eq c q) refl

-- ---- Entries taken out

none_before : {X : Type 0} (o p : Option X) → or_else o p ≡ None → o ≡ None
none_before None p e = refl
none_before (Some x) p e = absurd (cc)

pub no-slots-front : {V : Type 0} (xs ys all : List (Cell × V)) → all ≡ xs ++ ys → HaveNoSlots (at all) → HaveNoSlots (at xs)
no-slots-front xs ys all e none q slot k = none_before (at xs q) (at ys q) (sym (at-append xs ys q) ∙ ap (λ l. at l q) (sym e) ∙ none q slot k)

pub filled-append : {V : Type 0} (xs ys : List (Option (Cell × V))) → filled (xs ++ ys) ≡ filled xs ++ filled ys
filled-append [] ys = refl
filled-append (None ∷ xs) ys = filled-append xs ys
filled-append (Some e ∷ xs) ys = ap (λ l. e ∷ l) (filled-append xs ys)

pub placed-front : {V : Type 0} (n : ℕ) (xs ys : List (Option (Cell × V))) → ArePlaced n (xs ++ ys) → ArePlaced n xs
placed-front n [] ys a = tt
placed-front n (None ∷ xs) ys a = placed-front (suc n) xs ys a
placed-front n (Some e ∷ xs) ys a = (a.0, placed-front (suc n) xs ys a.1)

-- ---- Slots by their numbers

pub in_slot-none : {V : Type 0} (slots : List (Option (Cell × V))) (i : ℕ) (d : Option (Cell × V)) → i < length slots → get_or slots i d ≡ None → in_slot slots i ≡ None
in_slot-none [] i d lt e = refl
in_slot-none (s ∷ slots) zero d lt e = ap (option_map (λ e. e.1)) e
in_slot-none (s ∷ slots) (suc i) d lt e = in_slot-none slots i d (omega (arith, lt)) e

pub in_slot-some : {V : Type 0} (slots : List (Option (Cell × V))) (i : ℕ) (d : Option (Cell × V)) (e : Cell × V) → i < length slots → get_or slots i d ≡ Some e → in_slot slots i ≡ Some e.1
in_slot-some [] i d e lt h = absurd (omega (arith, lt))
in_slot-some (s ∷ slots) zero d e lt h = ap (option_map (λ e. e.1)) h
in_slot-some (s ∷ slots) (suc i) d e lt h = in_slot-some slots i d e (omega (arith, lt)) h

-- ---- What a map holds

pub held-some : {V : Type 0} (slots : List (Option (Cell × V))) (entries all : List (Cell × V)) (q : Cell) (i : ℕ) → ArePlaced 0 slots → HaveNoSlots (at entries) → filled slots ++ entries ≡ all
    → slot_of q ≡ Some i → at all q ≡ in_slot slots i
held-some slots entries all q i a n view h =
    ap (λ es. at es q) (sym view) ∙ ap (λ f. f q) (at-seen slots entries a n) ∙ ap (λ o. by_slot o slots (at entries q)) h

pub held-none : {V : Type 0} (slots : List (Option (Cell × V))) (entries all : List (Cell × V)) (q : Cell) → ArePlaced 0 slots → HaveNoSlots (at entries) → filled slots ++ entries ≡ all
    → slot_of q ≡ None → at all q ≡ at entries q
held-none slots entries all q a n view h =
    ap (λ es. at es q) (sym view) ∙ ap (λ f. f q) (at-seen slots entries a n) ∙ ap (λ o. by_slot o slots (at entries q)) h

-- a slot is filled, where the slots before have been made out of others
pub after-slot : {V : Type 0} (old made : List (Option (Cell × V))) (entries all : List (Cell × V)) (c : Cell) (v : V) (i : ℕ) → ArePlaced 0 old → HaveNoSlots (at entries) → filled old ++ entries ≡ all
    → ArePlaced 0 made → filled made ≡ filled old → slot_of c ≡ Some i → i < length made → at (filled (set made i (Some (c, v))) ++ entries) ≡ put c (Some v) (at all)
after-slot old made entries all c v i a n view b same h lt =
    at-seen (set made i (Some (c, v))) entries (placed-set 0 i made (c, v) (h ∙ ap Some (zero_more i)) b) n
    ∙ seen-set made entries i c v lt h
    ∙ ap (put c (Some v)) (sym (at-seen made entries b n) ∙ ap (λ l. at (l ++ entries)) same ∙ ap at view) where
      zero_more : (i : ℕ) → i ≡ 0 + i
      zero_more i = omega arith

pub placed-slot : {V : Type 0} (made : List (Option (Cell × V))) (c : Cell) (v : V) (i : ℕ) → slot_of c ≡ Some i → ArePlaced 0 made → ArePlaced 0 (set made i (Some (c, v)))
placed-slot made c v i h b = placed-set 0 i made (c, v) (h ∙ ap Some (zero_more i)) b where
  zero_more : (i : ℕ) → i ≡ 0 + i
  zero_more i = omega arith

pub after-hash : {V : Type 0} (slots : List (Option (Cell × V))) (old new all : List (Cell × V)) (c : Cell) (v : V) → ArePlaced 0 slots → HaveNoSlots (at old) → filled slots ++ old ≡ all
    → slot_of c ≡ None → at new ≡ put c (Some v) (at old) → at (filled slots ++ new) ≡ put c (Some v) (at all)
after-hash slots old new all c v a n view h e =
    at-seen slots new a (no-slots-put old new c v h e n) ∙ seen-hashed slots old new c v h e ∙ ap (put c (Some v)) (sym (at-seen slots old a n) ∙ ap at view)

-- a cell of a slot past a table's last has no entry there
filled-past : {V : Type 0} (n k : ℕ) (slots : List (Option (Cell × V))) (q : Cell) → ArePlaced n slots → slot_of q ≡ Some k → n + length slots ≤ k → at (filled slots) q ≡ None
unfolding at
filled-past n k [] q a h le = refl
filled-past n k (None ∷ slots) q a h le = filled-past (suc n) k slots q a h (omega (arith, le))
filled-past n k (Some e ∷ slots) q a h le =
    passed (cell_eq q e.0) e.1 (at (filled slots) q) (other_slot q e.0 (λ same. apart k n (length slots) (sym h ∙ same ∙ a.0) le)) (filled-past (suc n) k slots q a.1 h (omega (arith, le))) where
      apart : (k n m : ℕ) → Some k ≡ Some n → n + suc m ≤ k → ⊥
      apart k n m e le = let is : k ≡ n = cc in omega (arith, is, le)

placed-last : {V : Type 0} (n : ℕ) (xs : List (Option (Cell × V))) (e : Cell × V) → ArePlaced n (xs ++ Some e ∷ []) → slot_of e.0 ≡ Some (n + length xs)
placed-last n [] e a = a.0 ∙ ap Some (here n) where
  here : (n : ℕ) → n ≡ n + 0
  here n = omega arith
placed-last n (None ∷ xs) e a = placed-last (suc n) xs e a ∙ ap Some (next n (length xs)) where
  next : (n m : ℕ) → suc n + m ≡ n + suc m
  next n m = omega arith
placed-last n (Some d ∷ xs) e a = placed-last (suc n) xs e a.1 ∙ ap Some (next n (length xs)) where
  next : (n m : ℕ) → suc n + m ≡ n + suc m
  next n m = omega arith

pub alone-in-slots : {V : Type 0} (xs : List (Option (Cell × V))) (e : Cell × V) → ArePlaced 0 (xs ++ Some e ∷ []) → at (filled xs) e.0 ≡ None
alone-in-slots xs e a = filled-past 0 (0 + length xs) xs e.0 (placed-front 0 xs (Some e ∷ []) a) (placed-last 0 xs e a) (omega arith)

-- the last of a map's entries, which no other entry's cell is
none_slot : {V : Type 0} (slots : List (Option (Cell × V))) (old : List (Cell × V)) (q : Cell) (v : V) → HaveNoSlots (at old) → at old q ≡ Some v → (o : Option ℕ) → slot_of q ≡ o → o ≡ None
none_slot slots old q v n h None e = refl
none_slot slots old q v n h (Some i) e = absurd (some v (sym h ∙ n q i e)) where
  some : {X : Type 0} (x : X) → Some x ≡ None → ⊥
  some x e = cc

pub alone-in-map : {V : Type 0} (slots : List (Option (Cell × V))) (old new all : List (Cell × V)) (q : Cell) (v : V) → ArePlaced 0 slots → HaveNoSlots (at old) → HaveNoSlots (at new) → at old q ≡ Some v → at new q ≡ None
    → at (filled slots ++ new) q ≡ None
alone-in-map slots old new all q v a n m there gone =
    held-none slots new (filled slots ++ new) q a m refl (none_slot slots old q v n there (slot_of q) refl) ∙ gone

pub at-last : {V : Type 0} (xs : List (Cell × V)) (e : Cell × V) → at xs e.0 ≡ None → at (xs ++ e ∷ []) e.0 ≡ Some e.1
unfolding at
at-last xs e none = at-append xs (e ∷ []) e.0 ∙ ap (λ o. or_else o (cond (cell_eq e.0 e.0) (Some e.1) None)) none ∙ ap (λ b. cond b (Some e.1) None) (cell_eq-refl e.0)

-- a list's last entry, where no other is of its cell
pub at-snoc : {V : Type 0} (xs : List (Cell × V)) (e : Cell × V) → at xs e.0 ≡ None → at (xs ++ e ∷ []) ≡ put e.0 (Some e.1) (at xs)
unfolding at
at-snoc xs e none i q = (at-append xs (e ∷ []) q ∙ last (cell_eq q e.0) (cell_eq e.0 q) e.1 (at xs q) (cell_eq-equiv.symm q e.0) (λ t. ap (at xs) (cell_eq-true q e.0 t) ∙ none)) i where
  last : {V : Type 0} (b b' : Bool) (v : V) (o : Option V) → b ≡ b' → (b ≡ true → o ≡ None) → or_else o (cond b (Some v) None) ≡ cond b' (Some v) o
  last true b' v o s h = ap (λ p. or_else p (Some v)) (h refl) ∙ ap (λ c. cond c (Some v) o) s
  last false b' v o s h = rest o ∙ ap (λ c. cond c (Some v) o) s where
    rest : {V : Type 0} (o : Option V) → or_else o None ≡ o
    rest None = refl
    rest (Some x) = refl
