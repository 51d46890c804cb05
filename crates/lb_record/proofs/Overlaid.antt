-- What a cell tells where writes are laid over a state, and what is noted of that.
use Rattle.std.proofs.Common.{◌≡◌, ℕ, Bool, true, false, not, cond, List, [], ◌∷◌, ◌++◌, Option, Some, None, refl, ap, sym, ◌∙◌}
use Rattle.std.specs.Prelude.{is_some, unwrap_or}
use Rattle.std.specs.List.{list_any}
use Rattle.lb_rows.specs.declared.parameter.Parameter.TheVariants.{Year, Month, Day, Time}
use Rattle.lb_values.specs.Cells.{cell_eq}
use Rattle.lb_values.specs.declared.cell.Cell.{Cell}
use Rattle.lb_values.specs.declared.cell.Cell.TheVariants.{Par, Job, Prefix, Steps, File}
use Rattle.lb_values.specs.declared.reach.Reach.{Reach}
use Rattle.lb_values.specs.declared.value.Value.{Value}
use Rattle.lb_values.specs.declared.value.Value.TheVariants.{Absent}
use Rattle.lb_values.specs.Kept.{Kept, changed, saved, undone}
use Rattle.lb_values.proofs.KeptLemmas.{mapped-changed, mapped-undone}
use Rattle.lb_model.specs.declared.world.World.{World}
use Rattle.lb_model.specs.Ranges.{is_absent, is_settable}
use Rattle.lb_model.specs.Settings.{Notes, Setting, State, look, noted, noted_change, noted_save, noted_undo, or_number, with_cell}
use Rattle.lb_maps.specs.CellMap.{Held, at, held_now, kept}
use Rattle.lb_cells.specs.StateCells.{StateCells, or_else, stored_at, told_over, told_state}
use Rattle.lb_record.specs.Recorded.{AgreesWith, Recorded, kept_over, meaning_over, notes_of, reads_of, setting_of, told_more, writes_stand}
use Rattle.lb_record.proofs.Noted.{agrees-at, is-listed}

-- ---- What a cell tells

-- two states that hold the same at a cell tell the same there
look-alike : (w : World) (s t : State) (c : Cell) → s c ≡ t c → look w s c ≡ look w t c
look-alike w s t Job e = refl
look-alike w s t Prefix e = refl
look-alike w s t Steps e = refl
look-alike w s t (File name) e = refl
look-alike w s t (Par Year) e = ap (λ v. or_number v w.moment.year) e
look-alike w s t (Par Month) e = ap (λ v. or_number v w.moment.month) e
look-alike w s t (Par Day) e = ap (λ v. or_number v w.moment.day) e
look-alike w s t (Par Time) e = ap (λ v. or_number v w.moment.minutes) e
look-alike w s t c e = e

present : (v : Value) (n : ℕ) → not (is_absent v) ≡ true → or_number v n ≡ v
present Absent n h = cc
present v n h = refl

-- what a cell may be set to is what it then tells
look-set : (w : World) (s : State) (c : Cell) (v : Value) → is_settable c v ≡ true → s c ≡ v → look w s c ≡ v
look-set w s Job v h e = cc
look-set w s Prefix v h e = cc
look-set w s Steps v h e = cc
look-set w s (File name) v h e = cc
look-set w s (Par Year) v h e = ap (λ x. or_number x w.moment.year) e ∙ present v w.moment.year h
look-set w s (Par Month) v h e = ap (λ x. or_number x w.moment.month) e ∙ present v w.moment.month h
look-set w s (Par Day) v h e = ap (λ x. or_number x w.moment.day) e ∙ present v w.moment.day h
look-set w s (Par Time) v h e = ap (λ x. or_number x w.moment.minutes) e ∙ present v w.moment.minutes h
look-set w s c v h e = e

-- with no write on it a cell tells what the state does
pub look-under : (r : Recorded) (p : Setting) (c : Cell) → held_now None r.writes.entries c ≡ None → look p.world (meaning_over r p.state).now c ≡ look p.world p.state c
look-under r p c none = look-alike p.world (meaning_over r p.state).now p.state c (ap (λ o. unwrap_or o (p.state c)) none)

by_write : (r : Recorded) (p : Setting) (c : Cell) (v : Value) (write : Option Value) → held_now None r.writes.entries c ≡ write → ((x : Value) → held_now None r.writes.entries c ≡ Some x → is_settable c x ≡ true)
    → or_else write (at (reads_of r) c) ≡ Some v → AgreesWith (reads_of r) p → look p.world (meaning_over r p.state).now c ≡ v
by_write r p c v (Some x) is may h a =
    let same : x ≡ v = cc in look-set p.world (meaning_over r p.state).now c x (may x is) (ap (λ o. unwrap_or o (p.state c)) is) ∙ same
by_write r p c v None is may h a = look-under r p c is ∙ agrees-at p (reads_of r) c v h a

-- what is remembered is what the cell tells
pub look-remembered : (r : Recorded) (p : Setting) (c : Cell) (v : Value) → ((x : Value) → held_now None r.writes.entries c ≡ Some x → is_settable c x ≡ true)
    → or_else (held_now None r.writes.entries c) (at (reads_of r) c) ≡ Some v → AgreesWith (reads_of r) p → look p.world (meaning_over r p.state).now c ≡ v
look-remembered r p c v may h a = by_write r p c v (held_now None r.writes.entries c) refl may h a

-- nothing is remembered where nothing is written and nothing noted
pub nothing-written : {X : Type 0} (o p : Option X) → or_else o p ≡ None → o ≡ None
nothing-written None p h = refl
nothing-written (Some x) p h = h

pub nothing-noted : {X : Type 0} (o p : Option X) → or_else o p ≡ None → p ≡ None
nothing-noted None p h = h
nothing-noted (Some x) p h = cc

-- ---- What is noted

again : (n : Notes) (c : Cell) (v : Value) (write seen : Option Value) (listed : Bool) → or_else write seen ≡ Some v → is_some seen ≡ listed → n ≡ cond (is_some write) n (record n { told = cond listed n.told (n.told ++ c ∷ []) })
again n c v (Some x) seen listed h e = refl
again n c v None seen listed h e = ap (λ b. record n { told = cond b n.told (n.told ++ c ∷ []) }) (sym (ap is_some h) ∙ e)

pub notes-again : (r : Recorded) (c : Cell) (v : Value) → or_else (held_now None r.writes.entries c) (at (reads_of r) c) ≡ Some v → notes_of r ≡ noted c (notes_of r)
notes-again r c v h = again (notes_of r) c v (held_now None r.writes.entries c) (at (reads_of r) c) (list_any (cell_eq c) r.told) h (is-listed (setting_of r.world r.guess) r.told c)

pub notes-told : (r : Recorded) (c : Cell) → held_now None r.writes.entries c ≡ None → at (reads_of r) c ≡ None → notes_of (told_more c r) ≡ noted c (notes_of r)
notes-told r c none new =
    let n = notes_of r in
    sym
    (
    ap (λ o. cond (is_some o) n (record n { told = with_cell c n.told })) none
    ∙ ap (λ b. record n { told = cond b n.told (n.told ++ c ∷ []) }) (sym (is-listed (setting_of r.world r.guess) r.told c) ∙ ap is_some new)
    )

-- ---- Changes, saves and their undoing

module _ (s : State) (old new : Held (Option Value)) where
  pub over-changed : (reach : Reach) (c : Cell) (v : Value) → kept None new ≡ changed reach c (Some v) (kept None old) → kept_over s (kept None new) ≡ changed reach c v (kept_over s (kept None old))
  over-changed reach c v e = ap (kept_over s) e ∙ mapped-changed (told_over s) reach c (Some v) (kept None old)

  pub over-saved : (c : Cell) → kept None new ≡ saved c (kept None old) → kept_over s (kept None new) ≡ saved c (kept_over s (kept None old))
  over-saved c e = ap (kept_over s) e

  pub over-undone : kept None new ≡ undone (kept None old) → kept_over s (kept None new) ≡ undone (kept_over s (kept None old))
  over-undone e = ap (kept_over s) e ∙ mapped-undone (told_over s) (kept None old)

module _ (r : Recorded) (new : Held (Option Value)) where
  pub notes-changed : (reach : Reach) (c : Cell) (v : Value) → kept None new ≡ changed reach c (Some v) (kept None r.writes) → notes_of (record r { writes = new }) ≡ noted_change reach c (notes_of r)
  notes-changed reach c v e = ap (λ k. record { told = r.told; written = k }) (ap writes_stand e ∙ mapped-changed (λ _ write. is_some write) reach c (Some v) (kept None r.writes))

  pub notes-saved : (c : Cell) → kept None new ≡ saved c (kept None r.writes) → notes_of (record r { writes = new }) ≡ noted_save c (notes_of r)
  notes-saved c e = ap (λ k. record { told = r.told; written = writes_stand k }) e

  pub notes-undone : kept None new ≡ undone (kept None r.writes) → notes_of (record r { writes = new }) ≡ noted_undo (notes_of r)
  notes-undone e = ap (λ k. record { told = r.told; written = k }) (ap writes_stand e ∙ mapped-undone (λ _ write. is_some write) (kept None r.writes))

-- ---- What a guess tells

by_stored : (write held : Option Value) → unwrap_or write (unwrap_or held Absent) ≡ unwrap_or (or_else write held) Absent
by_stored (Some v) held = refl
by_stored None held = refl

pub told-stored : (s : StateCells) (c : Cell) → told_state s c ≡ unwrap_or (stored_at s c) Absent
told-stored s c = by_stored (held_now None s.over c) (at s.base c)
