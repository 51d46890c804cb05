-- A property of all that is kept lasts through changes, saves and their undoing.
use Rattle.std.proofs.Common.{◌≡◌, Bool, true, false, cond, List, [], ◌∷◌, map, Some, None, refl, subst}
use Rattle.lb_values.specs.Cells.{cell_eq}
use Rattle.lb_values.proofs.SameCells.{cell_eq-true}
use Rattle.lb_values.specs.declared.cell.Cell.{Cell}
use Rattle.lb_values.specs.declared.reach.Reach.{Reach}
use Rattle.lb_values.specs.declared.reach.Reach.TheVariants.{Local, Global}
use Rattle.lb_values.specs.Kept.{Kept, Save, changed, now_undone, put, saved, saves_undone, undone, void_save}
use Rattle.lb_record.specs.Recording.{AllKept, AllSaves}

module _ {X : Type 0} (P : Cell → X → Type 0) where
  put_at : (cell d : Cell) (x y : X) (b : Bool) → (b ≡ true → cell ≡ d) → P cell x → P d y → P d (cond b x y)
  put_at cell d x y true same px py = subst (λ c. P c x) (same refl) px
  put_at cell d x y false same px py = py

  all_put : (cell : Cell) (x : X) (f : Cell → X) → P cell x → ((d : Cell) → P d (f d)) → (d : Cell) → P d (put cell x f d)
  all_put cell x f px all d = put_at cell d x (f d) (cell_eq cell d) (cell_eq-true cell d) px (all d)

  voided : (b : Bool) (s : Cell × X) (saves : List (Save X)) → P s.0 s.1 → AllSaves P saves → AllSaves P (cond b None (Some s) ∷ saves)
  voided true s saves h a = a
  voided false s saves h a = (h, a)

  all_voided : (cell : Cell) (saves : List (Save X)) → AllSaves P saves → AllSaves P (map (void_save cell) saves)
  all_voided cell [] a = tt
  all_voided cell (None ∷ saves) a = all_voided cell saves a
  all_voided cell (Some s ∷ saves) a = voided (cell_eq cell s.0) s (map (void_save cell) saves) a.0 (all_voided cell saves a.1)

  pub kept-changed : (reach : Reach) (cell : Cell) (x : X) (k : Kept X) → P cell x → AllKept P k → AllKept P (changed reach cell x k)
  kept-changed Local cell x k px a = record { now = all_put cell x k.now px a.now; saves = a.saves }
  kept-changed Global cell x k px a = record { now = all_put cell x k.now px a.now; saves = all_voided cell k.saves a.saves }

  pub kept-saved : (cell : Cell) (k : Kept X) → AllKept P k → AllKept P (saved cell k)
  kept-saved cell k a = record { now = a.now; saves = (a.now cell, a.saves) }

  all_restored : (f : Cell → X) (saves : List (Save X)) → ((d : Cell) → P d (f d)) → AllSaves P saves → (d : Cell) → P d (now_undone f saves d)
  all_restored f [] all a d = all d
  all_restored f (None ∷ saves) all a d = all d
  all_restored f (Some s ∷ saves) all a d = all_put s.0 s.1 f a.0 all d

  saves_left : (saves : List (Save X)) → AllSaves P saves → AllSaves P (saves_undone saves)
  saves_left [] a = tt
  saves_left (None ∷ saves) a = a
  saves_left (Some s ∷ saves) a = a.1

  pub kept-undone : (k : Kept X) → AllKept P k → AllKept P (undone k)
  kept-undone k a = record { now = all_restored k.now k.saves a.now a.saves; saves = saves_left k.saves a.saves }

module _ {X : Type 0} (P Q : Cell → X → Type 0) where
  saves_weaker : ((cell : Cell) (x : X) → P cell x → Q cell x) → (saves : List (Save X)) → AllSaves P saves → AllSaves Q saves
  saves_weaker f [] a = tt
  saves_weaker f (None ∷ saves) a = saves_weaker f saves a
  saves_weaker f (Some s ∷ saves) a = (f s.0 s.1 a.0, saves_weaker f saves a.1)

  pub kept-weaker : ((cell : Cell) (x : X) → P cell x → Q cell x) → (k : Kept X) → AllKept P k → AllKept Q k
  kept-weaker f k a = record { now = λ cell. f cell (k.now cell) (a.now cell); saves = saves_weaker f k.saves a.saves }
