-- What a recorder keeps stays what it is through its steps.
use Rattle.std.proofs.Common.{◌≡◌, Bool, true, false, cond, List, [], ◌∷◌, ◌++◌, map, Option, Some, None, length, refl, ap, sym, subst, ◌∙◌}
use Rattle.std.proofs.lemmas.Map.Keys.{IsDistinct-push}
use Rattle.std.specs.List.{IsDistinct}
use Rattle.std.specs.Prelude.{is_some}
use Rattle.lb_values.specs.Cells.{cell_eq}
use Rattle.lb_values.proofs.SameCells.{cell_eq-equiv, cell_eq-refl, cell_eq-true}
use Rattle.lb_values.specs.declared.cell.Cell.{Cell}
use Rattle.lb_values.specs.declared.reach.Reach.{Reach}
use Rattle.lb_values.specs.declared.value.Value.{Value}
use Rattle.lb_values.specs.Kept.{changed, put, saved, undone}
use Rattle.lb_model.specs.declared.world.World.{World}
use Rattle.lb_model.specs.Ranges.{is_settable}
use Rattle.lb_model.specs.Settings.{look}
use Rattle.lb_maps.specs.CellMap.{Held, at, held_now, kept}
use Rattle.lb_cells.specs.StateCells.{StateCells, told_state}
use Rattle.lb_record.specs.declared.known.Known.{Known}
use Rattle.lb_record.specs.Recorded.{setting_of}
use Rattle.lb_record.specs.Recording.{AllKept, IsRecording, IsWrite, known_of}
use Rattle.lb_record.proofs.Kepts.{kept-changed, kept-saved, kept-undone, kept-weaker}
use Rattle.lb_record.proofs.Noted.{agrees-more, any-read, cells-more}
use Rattle.lb_record.proofs.Placed.{placed-alike, placed-more, placed-none, write-alike}

no_write : (known : List (Cell × Known)) (cell : Cell) → IsWrite known cell (held_now None [] cell)
unfolding at
no_write known cell = tt

none_twice : IsDistinct cell_eq []
unfolding IsDistinct
none_twice = tt

put_place : (cell q : Cell) (k : Known) (f : Cell → Known) (b : Bool) → (b ≡ true → cell ≡ q) → k.place ≡ (f cell).place → (cond b k (f q)).place ≡ (f q).place
put_place cell q k f true same e = e ∙ ap (λ c. (f c).place) (same refl)
put_place cell q k f false same e = refl

put_written : (cell q : Cell) (k : Known) (f : Cell → Known) (b : Bool) → (b ≡ true → cell ≡ q) → ((f cell).written ≡ true → k.written ≡ true) → (f q).written ≡ true → (cond b k (f q)).written ≡ true
put_written cell q k f true same e h = e (ap (λ c. (f c).written) (same refl) ∙ h)
put_written cell q k f false same e h = h

-- a write that stands may be made, and is known
pub write-settable : (known : List (Cell × Known)) (cell : Cell) (write : Option Value) → IsWrite known cell write → (v : Value) → write ≡ Some v → is_settable cell v ≡ true
write-settable known cell None a v e = cc
write-settable known cell (Some w) a v e = let is : w ≡ v = cc in ap (is_settable cell) (sym is) ∙ a.0

pub write-known : (known : List (Cell × Known)) (cell : Cell) (write : Option Value) → IsWrite known cell write → (known_of known cell).written ≡ false → write ≡ None
write-known known cell None a h = refl
write-known known cell (Some w) a h = let never : true ≡ false = sym a.1 ∙ h in cc

module _ (w : World) (g : StateCells) where
  pub recording-new : (known : List (Cell × Known)) (pairs : List (Cell × Value)) (writes : Held (Option Value)) → known ≡ [] → pairs ≡ [] → writes.entries ≡ [] → writes.saves ≡ [] → IsRecording w g known pairs writes
  recording-new known pairs writes k p e s = record {
    holds = rw p tt;
    once = rw p none_twice;
    placed = rw (k, p) placed-none;
    written = record { now = λ cell. subst (λ es. IsWrite known cell (held_now None es cell)) (sym e) (no_write known cell); saves = rw s tt };
  }

  -- once nothing else is known
  pub recording-known : (old new : List (Cell × Known)) (pairs : List (Cell × Value)) (writes : Held (Option Value)) → known_of new ≡ known_of old → IsRecording w g old pairs writes → IsRecording w g new pairs writes
  recording-known old new pairs writes e a = record {
    holds = a.holds;
    once = a.once;
    placed = placed-alike old new pairs (λ q. ap (λ f. (f q).place) e) a.placed;
    written = kept-weaker (IsWrite old) (IsWrite new) (write-alike old new (λ q h. ap (λ f. (f q).written) e ∙ h)) (kept None writes) a.written;
  }

  -- once a cell is known to be written
  pub recording-marked : (old new : List (Cell × Known)) (pairs : List (Cell × Value)) (writes : Held (Option Value)) (cell : Cell) → known_of new ≡ put cell (record (known_of old cell) { written = true }) (known_of old)
      → IsRecording w g old pairs writes → IsRecording w g new pairs writes
  recording-marked old new pairs writes cell e a =
      let k = record (known_of old cell) { written = true } in
      record {
        holds = a.holds;
        once = a.once;
        placed = placed-alike old new pairs (λ q. ap (λ f. (f q).place) e ∙ put_place cell q k (known_of old) (cell_eq cell q) (cell_eq-true cell q) refl) a.placed;
        written = kept-weaker (IsWrite old) (IsWrite new)
            (write-alike old new (λ q h. ap (λ f. (f q).written) e ∙ put_written cell q k (known_of old) (cell_eq cell q) (cell_eq-true cell q) (λ _. refl) h)) (kept None writes) a.written;
      }

  -- once a cell is told for the first time
  pub recording-more : (old new : List (Cell × Known)) (pairs : List (Cell × Value)) (writes : Held (Option Value)) (cell : Cell) (v : Value) (k : Known) → at pairs cell ≡ None → known_of new ≡ put cell k (known_of old)
      → k.place ≡ Some (length pairs) → k.written ≡ (known_of old cell).written → look w (told_state g) cell ≡ v → IsRecording w g old pairs writes → IsRecording w g new (pairs ++ (cell, v) ∷ []) writes
  recording-more old new pairs writes cell v k none e here same tells a = record {
    holds = agrees-more (setting_of w g) pairs cell v a.holds tells;
    once = subst (IsDistinct cell_eq) (sym (cells-more pairs cell v)) (IsDistinct-push cell_eq-equiv (map (λ e. e.0) pairs) cell a.once (sym (any-read pairs cell) ∙ ap is_some none));
    placed = placed-more old new pairs cell v k none e here a.placed;
    written = kept-weaker (IsWrite old) (IsWrite new)
        (write-alike old new (λ q h. ap (λ f. (f q).written) e ∙ put_written cell q k (known_of old) (cell_eq cell q) (cell_eq-true cell q) (λ t. same ∙ t) h)) (kept None writes) a.written;
  }

  -- once writes are as they were, or are changed, saved or put back
  pub recording-kept : (known : List (Cell × Known)) (pairs : List (Cell × Value)) (old new : Held (Option Value)) → kept None new ≡ kept None old → IsRecording w g known pairs old → IsRecording w g known pairs new
  recording-kept known pairs old new e a = record { holds = a.holds; once = a.once; placed = a.placed; written = subst (AllKept (IsWrite known)) (sym e) a.written }

  pub recording-changed : (known : List (Cell × Known)) (pairs : List (Cell × Value)) (old new : Held (Option Value)) (reach : Reach) (cell : Cell) (v : Value) → is_settable cell v ≡ true
      → (known_of known cell).written ≡ true → kept None new ≡ changed reach cell (Some v) (kept None old) → IsRecording w g known pairs old → IsRecording w g known pairs new
  recording-changed known pairs old new reach cell v may marked e a = record {
    holds = a.holds;
    once = a.once;
    placed = a.placed;
    written = subst (AllKept (IsWrite known)) (sym e) (kept-changed (IsWrite known) reach cell (Some v) (kept None old) (may, marked) a.written);
  }

  pub recording-saved : (known : List (Cell × Known)) (pairs : List (Cell × Value)) (old new : Held (Option Value)) (cell : Cell) → kept None new ≡ saved cell (kept None old) → IsRecording w g known pairs old
      → IsRecording w g known pairs new
  recording-saved known pairs old new cell e a = record { holds = a.holds; once = a.once; placed = a.placed; written = subst (AllKept (IsWrite known)) (sym e) (kept-saved (IsWrite known) cell (kept None old) a.written) }

  pub recording-undone : (known : List (Cell × Known)) (pairs : List (Cell × Value)) (old new : Held (Option Value)) → kept None new ≡ undone (kept None old) → IsRecording w g known pairs old → IsRecording w g known pairs new
  recording-undone known pairs old new e a = record { holds = a.holds; once = a.once; placed = a.placed; written = subst (AllKept (IsWrite known)) (sym e) (kept-undone (IsWrite known) (kept None old) a.written) }

-- a cell that was marked is known to be written
pub marked-there : (old new : List (Cell × Known)) (cell : Cell) → known_of new ≡ put cell (record (known_of old cell) { written = true }) (known_of old) → (known_of new cell).written ≡ true
marked-there old new cell e = ap (λ f. (f cell).written) e ∙ ap (λ b. (cond b (record (known_of old cell) { written = true }) (known_of old cell)).written) (cell_eq-refl cell)
