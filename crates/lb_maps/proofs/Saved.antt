-- Each standing save's cell has an entry.
use Rattle.std.proofs.Common.{◌≡◌, Bool, true, false, cond, List, [], ◌∷◌, map, Some, None, Ok, Err, OnErr, refl, ap, sym, ◌∙◌}
use Rattle.std.specs.declared.result.Result.{Result}
use Rattle.std.specs.Prelude.{Option, is_some, unwrap_or}
use Rattle.lb_values.specs.Cells.{cell_eq}
use Rattle.lb_values.proofs.SameCells.{cell_eq-true, cell_eq-refl}
use Rattle.lb_values.specs.declared.cell.Cell.{Cell}
use Rattle.lb_values.specs.Kept.{put, Save, void_save}
use Rattle.lb_maps.specs.CellMap.{at, held_now, AllSaved, KeepsEntries}

pub AllSaved-kept : {V : Type 0} (old new : List (Cell × V)) (saves : List (Save V)) → KeepsEntries old new → AllSaved old saves → AllSaved new saves
AllSaved-kept old new [] k a = tt
AllSaved-kept old new (None ∷ saves) k a = AllSaved-kept old new saves k a
AllSaved-kept old new (Some s ∷ saves) k a = (k s.0 a.0, AllSaved-kept old new saves k a.1)

is_some_cond : {V : Type 0} (b : Bool) (v : V) (o : Option V) → is_some o ≡ true → is_some (cond b (Some v) o) ≡ true
is_some_cond true v o h = refl
is_some_cond false v o h = h

pub keeps-put : {V : Type 0} (old new : List (Cell × V)) (cell : Cell) (v : V) → at new ≡ put cell (Some v) (at old) → KeepsEntries old new
keeps-put old new cell v e q h = ap (λ f. is_some (f q)) e ∙ is_some_cond (cell_eq cell q) v (at old q) h

pub AllSaved-put : {V : Type 0} (old new : List (Cell × V)) (saves : List (Save V)) (cell : Cell) (v : V) → at new ≡ put cell (Some v) (at old) → AllSaved old saves → AllSaved new saves
AllSaved-put old new saves cell v e a = AllSaved-kept old new saves (keeps-put old new cell v e) a

voided : {V : Type 0} (entries : List (Cell × V)) (b : Bool) (s : Cell × V) (rest : List (Save V)) → is_some (at entries s.0) ≡ true → AllSaved entries rest → AllSaved entries (cond b None (Some s) ∷ rest)
voided entries true s rest h a = a
voided entries false s rest h a = (h, a)

pub AllSaved-void : {V : Type 0} (entries : List (Cell × V)) (cell : Cell) (saves : List (Save V)) → AllSaved entries saves → AllSaved entries (map (void_save cell) saves)
AllSaved-void entries cell [] a = tt
AllSaved-void entries cell (None ∷ saves) a = AllSaved-void entries cell saves a
AllSaved-void entries cell (Some s ∷ saves) a = voided entries (cell_eq cell s.0) s (map (void_save cell) saves) a.0 (AllSaved-void entries cell saves a.1)

pub AllSaved-tail : {V : Type 0} (entries : List (Cell × V)) (s : Save V) (saves rest : List (Save V)) → saves ≡ s ∷ rest → AllSaved entries saves → AllSaved entries rest
AllSaved-tail entries None saves rest e a = rw e at a
AllSaved-tail entries (Some s) saves rest e a = (rw e at a).1

pub AllSaved-push : {V : Type 0} (entries : List (Cell × V)) (cell : Cell) (v : V) (saves rest : List (Save V)) → saves ≡ Some (cell, v) ∷ rest → is_some (at entries cell) ≡ true → AllSaved entries rest
    → AllSaved entries saves
AllSaved-push entries cell v saves rest e h a = rw e (h, a)

-- a blank entry changes nothing
pub held_now-blank : {V : Type 0} (old new : List (Cell × V)) (key cell : Cell) (blank : V) → key ≡ cell → at old cell ≡ None → at new ≡ put key (Some blank) (at old)
    → held_now blank new ≡ held_now blank old
held_now-blank old new key cell blank k none e =
    ap (λ f q. unwrap_or (f q) blank) e
    ∙ (λ i q. blank_there (cell_eq key q) blank (at old q) (λ t. ap (at old) (sym (cell_eq-true key q t) ∙ k) ∙ none) i) where
      blank_there : {V : Type 0} (b : Bool) (blank : V) (o : Option V) → (b ≡ true → o ≡ None) → unwrap_or (cond b (Some blank) o) blank ≡ unwrap_or o blank
      blank_there true blank o h = ap (λ v. unwrap_or v blank) (sym (h refl))
      blank_there false blank o h = refl

pub at-put : {V : Type 0} (old new : List (Cell × V)) (key cell : Cell) (v : V) → key ≡ cell → at new ≡ put key (Some v) (at old) → at new cell ≡ Some v
at-put old new key cell v k e =
    ap (λ f. f cell) e ∙ ap (λ b. cond b (Some v) (at old cell)) (ap (λ c. cell_eq c cell) k ∙ cell_eq-refl cell)

-- what cells hold, once an entry is written
now_put : {V : Type 0} (b : Bool) (blank v : V) (o : Option V) → unwrap_or (cond b (Some v) o) blank ≡ cond b v (unwrap_or o blank)
now_put true blank v o = refl
now_put false blank v o = refl

pub held_now-put : {V : Type 0} (blank : V) (old new : List (Cell × V)) (cell : Cell) (v : V) → at new ≡ put cell (Some v) (at old) → held_now blank new ≡ put cell v (held_now blank old)
held_now-put blank old new cell v e = ap (λ f q. unwrap_or (f q) blank) e ∙ (λ i q. now_put (cell_eq cell q) blank v (at old q) i)

-- what holds, holds on an error
pub on_err : {T E : Type 0} (r : Result T E) {P : Type 0} → P → OnErr r P
on_err (Ok x) p = tt
on_err (Err e) p = p
