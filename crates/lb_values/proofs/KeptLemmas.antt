-- Changes of what is kept, seen by a function.
use Rattle.std.proofs.Common.{◌≡◌, Bool, true, false, cond, List, [], ◌∷◌, map, Some, None, refl, ap, sym}
use Rattle.lb_values.specs.Cells.{cell_eq}
use Rattle.lb_values.proofs.SameCells.{cell_eq-true}
use Rattle.lb_values.specs.declared.cell.Cell.{Cell}
use Rattle.lb_values.specs.declared.reach.Reach.{Reach}
use Rattle.lb_values.specs.declared.reach.Reach.TheVariants.{Local, Global}
use Rattle.lb_values.specs.Kept.{Kept, Save, put, void_save, changed, undone, now_undone, saves_undone, mapped, mapped_save}

cond_at : {X Y : Type 0} (f : Cell → X → Y) (cell d : Cell) (x y : X) (b : Bool) → (b ≡ true → cell ≡ d) → f d (cond b x y) ≡ cond b (f cell x) (f d y)
cond_at f cell d x y true same = ap (λ c. f c x) (sym (same refl))
cond_at f cell d x y false same = refl

pub mapped-put : {X Y : Type 0} (f : Cell → X → Y) (cell : Cell) (x : X) (g : Cell → X) → (λ d. f d (put cell x g d)) ≡ put cell (f cell x) (λ d. f d (g d))
mapped-put f cell x g i d = cond_at f cell d x (g d) (cell_eq cell d) (cell_eq-true cell d) i

void_at : {X Y : Type 0} (f : Cell → X → Y) (s : Cell × X) (b : Bool) → mapped_save f (cond b None (Some s)) ≡ cond b None (Some (s.0, f s.0 s.1))
void_at f s true = refl
void_at f s false = refl

pub mapped-void : {X Y : Type 0} (f : Cell → X → Y) (cell : Cell) (saves : List (Save X)) → map (mapped_save f) (map (void_save cell) saves) ≡ map (void_save cell) (map (mapped_save f) saves)
mapped-void f cell [] = refl
mapped-void f cell (None ∷ saves) = ap (λ l. None ∷ l) (mapped-void f cell saves)
mapped-void f cell (Some s ∷ saves) = λ i. void_at f s (cell_eq cell s.0) i ∷ mapped-void f cell saves i

pub mapped-changed : {X Y : Type 0} (f : Cell → X → Y) (reach : Reach) (cell : Cell) (x : X) (k : Kept X) → mapped f (changed reach cell x k) ≡ changed reach cell (f cell x) (mapped f k)
mapped-changed f Local cell x k i = record { now = mapped-put f cell x k.now i; saves = map (mapped_save f) k.saves }
mapped-changed f Global cell x k i = record { now = mapped-put f cell x k.now i; saves = mapped-void f cell k.saves i }

now_undone-mapped : {X Y : Type 0} (f : Cell → X → Y) (g : Cell → X) (saves : List (Save X)) → (λ d. f d (now_undone g saves d)) ≡ now_undone (λ d. f d (g d)) (map (mapped_save f) saves)
now_undone-mapped f g [] = refl
now_undone-mapped f g (None ∷ saves) = refl
now_undone-mapped f g (Some s ∷ saves) = mapped-put f s.0 s.1 g

saves_undone-mapped : {X Y : Type 0} (f : Cell → X → Y) (saves : List (Save X)) → map (mapped_save f) (saves_undone saves) ≡ saves_undone (map (mapped_save f) saves)
saves_undone-mapped f [] = refl
saves_undone-mapped f (s ∷ saves) = refl

pub mapped-undone : {X Y : Type 0} (f : Cell → X → Y) (k : Kept X) → mapped f (undone k) ≡ undone (mapped f k)
mapped-undone f k i = record { now = now_undone-mapped f k.now k.saves i; saves = saves_undone-mapped f k.saves i }
