-- Writes that are laid over.
use Rattle.std.proofs.Common.{◌≡◌, Bool, true, false, cond, List, [], Option, Some, None, refl, ap, sym, ◌∙◌}
use Rattle.std.specs.Prelude.{unwrap_or}
use Rattle.lb_values.specs.Cells.{cell_eq}
use Rattle.lb_values.proofs.SameCells.{cell_eq-true}
use Rattle.lb_values.specs.Kept.{put}
use Rattle.lb_values.specs.declared.cell.Cell.{Cell}
use Rattle.lb_values.specs.declared.value.Value.{Value}
use Rattle.lb_model.specs.Settings.{State, laid_over}
use Rattle.lb_maps.specs.CellMap.{at, held_now}
use Rattle.lb_cells.specs.StateCells.{or_else, put_write, told_over, written_over}

-- one write more, which is put into the others first or stays with the writes
one_write : {V : Type 0} (b : Bool) (v : V) (w old : Option V) (o : Option (Option V)) → (b ≡ true → o ≡ None)
    → or_else (unwrap_or o None) (cond b (Some v) old) ≡ or_else (unwrap_or (cond b (Some (Some v)) o) None) old
one_write true v w old o h = ap (λ p. or_else (unwrap_or p None) (Some v)) (h refl)
one_write false v w old o h = refl

no_write : {V : Type 0} (b : Bool) (old : Option V) (o : Option (Option V)) → (b ≡ true → o ≡ None)
    → or_else (unwrap_or o None) old ≡ or_else (unwrap_or (cond b (Some None) o) None) old
no_write true old o h = ap (λ p. or_else (unwrap_or p None) old) (h refl)
no_write false old o h = refl

pub write-taken : (all left : List (Cell × Option Value)) (cell : Cell) (write : Option Value) (old new : List (Cell × Option Value)) → at left cell ≡ None → at all ≡ put cell (Some write) (at left)
    → held_now None new ≡ put_write cell write (held_now None old) → written_over (held_now None left) (held_now None new) ≡ written_over (held_now None all) (held_now None old)
write-taken all left cell (Some v) old new gone is put_in =
    ap (written_over (held_now None left)) put_in
    ∙ (λ i q. one_write (cell_eq cell q) v None (held_now None old q) (at left q) (λ t. ap (at left) (sym (cell_eq-true cell q t)) ∙ gone) i)
    ∙ ap (λ f. written_over (λ q. unwrap_or (f q) None) (held_now None old)) (sym is)
write-taken all left cell None old new gone is put_in =
    ap (written_over (held_now None left)) put_in
    ∙ (λ i q. no_write (cell_eq cell q) (held_now None old q) (at left q) (λ t. ap (at left) (sym (cell_eq-true cell q t)) ∙ gone) i)
    ∙ ap (λ f. written_over (λ q. unwrap_or (f q) None) (held_now None old)) (sym is)

-- no write
pub nothing-over : (old : List (Cell × Option Value)) → written_over (held_now None []) (held_now None old) ≡ held_now None old
unfolding at
nothing-over old = refl

-- what is written over a state that is told
laid_at : (base v : Value) (w o : Option Value) → unwrap_or (or_else w o) base ≡ unwrap_or w (unwrap_or o base)
laid_at base v None o = refl
laid_at base v (Some x) o = refl

pub laid-told : (base : State) (writes old : Cell → Option Value) → (λ cell. told_over base cell (written_over writes old cell)) ≡ laid_over writes (λ cell. told_over base cell (old cell))
laid-told base writes old i cell = laid_at (base cell) (base cell) (writes cell) (old cell) i
