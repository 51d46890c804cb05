-- Saves and changes, as a stack of whole states.
use Rattle.std.proofs.Common.{◌≡◌, Bool, true, false, cond, ℕ, zero, suc, List, [], ◌∷◌, map, Some, None, refl, ap, sym, ◌∙◌, length, arith, ◌<◌, ◌≤◌, ◌+◌, min, subst}
use Rattle.std.specs.Prelude.{Option, Result, Ok, Err, OnOk, OnErr, not, nat_eq}
use Rattle.std.specs.Option.{option_map}
use Rattle.std.proofs.lemmas.List.{length-map}
use Rattle.lb_values.proofs.SameCells.{cell_eq-true}
use Rattle.lb_values.specs.Cells.{cell_eq}
use Rattle.lb_values.specs.declared.cell.Cell.{Cell}
use Rattle.lb_values.specs.declared.reach.Reach.TheVariants.{Local, Global}
use Rattle.lb_values.specs.declared.value.Value.{Value}
use Rattle.lb_values.specs.Kept.{Kept, Save, changed, now_undone, put, restored, saved, saves_undone, undone, void_save}
use Rattle.lb_model.specs.declared.cells.Cells.{Ghosts}
use Rattle.lb_model.specs.declared.group.Group.{Group}
use Rattle.lb_model.specs.declared.group.GroupKind.{GroupKind}
use Rattle.lb_model.specs.Settings.{Notes, noted, noted_change, noted_save, noted_undo, with_cell}
use Rattle.lb_model.specs.Stacked.{Standing, StackedNotes, assigned, closed, earlier_of, looked, notes_assigned, notes_closed, notes_opened, saves_in, stacked, stacked_notes, undone_by}
use Rattle.lb_model.specs.Told.{Tells}
use Rattle.lb_groups.specs.Open.{HasRoom, TellsIn, groups_of, innermost, is_open, noted_undo_by, one_more}

put_back_at : {X : Type 0} (b : Bool) (x y z : X) → (b ≡ true → x ≡ z) → cond b x (cond b y z) ≡ z
put_back_at true x y z h = h refl
put_back_at false x y z h = refl

-- what was there, put back over a change
put-back : {X : Type 0} (c : Cell) (x : X) (f : Cell → X) → put c (f c) (put c x f) ≡ f
put-back c x f i d = put_back_at (cell_eq c d) (f c) x (f d) (λ t. ap f (cell_eq-true c d t)) i

put_same_at : {X : Type 0} (b : Bool) (x z : X) → (b ≡ true → x ≡ z) → cond b x z ≡ z
put_same_at true x z h = h refl
put_same_at false x z h = refl

put-same : {X : Type 0} (c : Cell) (f : Cell → X) → put c (f c) f ≡ f
put-same c f i d = put_same_at (cell_eq c d) (f c) (f d) (λ t. ap f (cell_eq-true c d t)) i

-- a save undone, with and without a local change since
pub undone-saved : {X : Type 0} (c : Cell) (k : Kept X) → undone (saved c k) ≡ k
undone-saved c k i = record { now = put-same c k.now i; saves = k.saves }

pub undone-changed-saved : {X : Type 0} (c : Cell) (x : X) (k : Kept X) → undone (changed Local c x (saved c k)) ≡ k
undone-changed-saved c x k i = record { now = put-back c x k.now i; saves = k.saves }

over_at : {X : Type 0} (a b : Bool) (x v z : X) → (a ≡ b) → cond a x z ≡ cond a x (cond b v z)
over_at true true x v z h = refl
over_at true false x v z h = cc
over_at false true x v z h = cc
over_at false false x v z h = refl

apart_at : {X : Type 0} (a b : Bool) (x v z : X) → (a ≡ true → b ≡ true → Rattle.std.proofs.Common.false ≡ true) → cond b v (cond a x z) ≡ cond a x (cond b v z)
apart_at true true x v z h = absurd_at (h refl refl) where
  absurd_at : false ≡ true → v ≡ x
  absurd_at e = cc
apart_at true false x v z h = refl
apart_at false true x v z h = refl
apart_at false false x v z h = refl

-- a save restored after a global change, which made it void if it is of the cell
restored-void : {X : Type 0} (c : Cell) (x : X) (f : Cell → X) (s : Cell × X) (b : Bool) → cell_eq c s.0 ≡ b → restored (cond b None (Some s)) (put c x f) ≡ put c x (put s.0 s.1 f)
restored-void c x f s true e i d = over_at (cell_eq c d) (cell_eq s.0 d) x s.1 (f d) (ap (λ q. cell_eq q d) (cell_eq-true c s.0 e)) i
restored-void c x f s false e i d =
    apart_at (cell_eq c d) (cell_eq s.0 d) x s.1 (f d) (λ p q. sym e ∙ ap (cell_eq c) (cell_eq-true s.0 d q) ∙ p) i

now-global : {X : Type 0} (c : Cell) (x : X) (f : Cell → X) (saves : List (Save X)) → now_undone (put c x f) (map (void_save c) saves) ≡ put c x (now_undone f saves)
now-global c x f [] = refl
now-global c x f (None ∷ saves) = refl
now-global c x f (Some s ∷ saves) = restored-void c x f s (cell_eq c s.0) refl

saves-global : {X : Type 0} (c : Cell) (saves : List (Save X)) → saves_undone (map (void_save c) saves) ≡ map (void_save c) (saves_undone saves)
saves-global c [] = refl
saves-global c (s ∷ saves) = refl

undone-global : {X : Type 0} (c : Cell) (x : X) (k : Kept X) → undone (changed Global c x k) ≡ changed Global c x (undone k)
undone-global c x k i = record { now = now-global c x k.now k.saves i; saves = saves-global c k.saves i }

undone_by-global : {X : Type 0} (n : ℕ) (c : Cell) (x : X) (k : Kept X) → undone_by n (changed Global c x k) ≡ changed Global c x (undone_by n k)
undone_by-global zero c x k = refl
undone_by-global (suc n) c x k = ap undone (undone_by-global n c x k) ∙ undone-global c x (undone_by n k)

earlier_of-global : {X : Type 0} (groups : List Group) (c : Cell) (x : X) (k : Kept X) → earlier_of groups (changed Global c x k) ≡ map (put c x) (earlier_of groups k)
earlier_of-global [] c x k = refl
earlier_of-global (g ∷ groups) c x k =
    ap (λ u. u.now ∷ earlier_of groups u) (undone_by-global g.saves c x k) ∙ ap (λ l. put c x (undone_by g.saves k).now ∷ l) (earlier_of-global groups c x (undone_by g.saves k))

-- a global change
pub stacked-global : {X : Type 0} (groups : List Group) (c : Cell) (x : X) (k : Kept X) → stacked groups (changed Global c x k) ≡ assigned Global c x (stacked groups k)
stacked-global groups c x k i = record { now = put c x k.now; earlier = earlier_of-global groups c x k i }

undone_by-undone : {X : Type 0} (n : ℕ) (k : Kept X) → undone_by (suc n) k ≡ undone_by n (undone k)
undone_by-undone zero k = refl
undone_by-undone (suc n) k = ap undone (undone_by-undone n k)

-- a local change, saved before
pub stacked-local : {X : Type 0} (g : Group) (groups : List Group) (c : Cell) (x : X) (k : Kept X) → stacked (one_more (g ∷ groups)) (changed Local c x (saved c k)) ≡ assigned Local c x (stacked (g ∷ groups) k)
stacked-local g groups c x k =
    let same : undone_by (suc g.saves) (changed Local c x (saved c k)) ≡ undone_by g.saves k = undone_by-undone g.saves (changed Local c x (saved c k)) ∙ ap (undone_by g.saves) (undone-changed-saved c x k) in
    λ i. record { now = put c x k.now; earlier = (same i).now ∷ earlier_of groups (same i) }

pub notes-global : (groups : List Group) (c : Cell) (o : Option Notes) → stacked_notes groups (option_map (noted_change Global c) o) ≡ option_map (notes_assigned Global c) (stacked_notes groups o)
notes-global groups c None = refl
notes-global groups c (Some n) = λ i. Some (record { told = n.told; written = stacked-global groups c true n.written i })

pub stacked-alone : {X : Type 0} (groups : List Group) (c : Cell) (x : X) (k : Kept X) → is_open groups ≡ false → stacked groups (changed Local c x k) ≡ assigned Local c x (stacked groups k)
stacked-alone [] c x k h = refl
stacked-alone (g ∷ groups) c x k h = cc

pub notes-alone : (groups : List Group) (c : Cell) (o : Option Notes) → is_open groups ≡ false → stacked_notes groups (option_map (noted_change Local c) o) ≡ option_map (notes_assigned Local c) (stacked_notes groups o)
notes-alone groups c None h = refl
notes-alone groups c (Some n) h = λ i. Some (record { told = n.told; written = stacked-alone groups c true n.written h i })

pub stacked-saved : {X : Type 0} (groups : List Group) (c : Cell) (x : X) (k : Kept X) → is_open groups ≡ true
    → stacked (one_more groups) (changed Local c x (saved c k)) ≡ assigned Local c x (stacked groups k)
stacked-saved [] c x k h = cc
stacked-saved (g ∷ groups) c x k h = stacked-local g groups c x k

pub notes-saved : (groups : List Group) (c : Cell) (o : Option Notes) → is_open groups ≡ true
    → stacked_notes (one_more groups) (option_map (λ n. noted_change Local c (noted_save c n)) o) ≡ option_map (notes_assigned Local c) (stacked_notes groups o)
notes-saved groups c None h = refl
notes-saved groups c (Some n) h = λ i. Some (record { told = n.told; written = stacked-saved groups c true n.written h i })

pub notes-undone-saved : (c : Cell) (o : Option Notes) → option_map noted_undo (option_map (noted_save c) o) ≡ o
notes-undone-saved c None = refl
notes-undone-saved c (Some n) = λ i. Some (record { told = n.told; written = undone-saved c n.written i })

pub stacked-closed : {X : Type 0} (g : Group) (groups old : List Group) (k u : Kept X) → old ≡ g ∷ groups → u ≡ undone_by g.saves k → stacked groups u ≡ closed (stacked old k)
stacked-closed g groups old k u e h = ap (stacked groups) h ∙ ap (λ l. closed (stacked l k)) (sym e)

pub stacked-none : {X : Type 0} (groups old : List Group) (k : Kept X) → old ≡ [] → groups ≡ [] → stacked groups k ≡ closed (stacked old k)
stacked-none groups old k e f = ap (λ l. stacked l k) f ∙ ap (λ l. closed (stacked l k)) (sym e)

closed_notes : (g : Group) (groups : List Group) (o : Option Notes) → stacked_notes groups (option_map (noted_undo_by g.saves) o) ≡ option_map notes_closed (stacked_notes (g ∷ groups) o)
closed_notes g groups None = refl
closed_notes g groups (Some m) = refl

pub notes-closed : (g : Group) (groups old : List Group) (o u : Option Notes) → old ≡ g ∷ groups → u ≡ option_map (noted_undo_by g.saves) o → stacked_notes groups u ≡ option_map notes_closed (stacked_notes old o)
notes-closed g groups old o u e h = ap (stacked_notes groups) h ∙ closed_notes g groups o ∙ ap (λ l. option_map notes_closed (stacked_notes l o)) (sym e)

none_notes : (o : Option Notes) → stacked_notes [] o ≡ option_map notes_closed (stacked_notes [] o)
none_notes None = refl
none_notes (Some m) = refl

pub notes-none : (groups old : List Group) (o : Option Notes) → old ≡ [] → groups ≡ [] → stacked_notes groups o ≡ option_map notes_closed (stacked_notes old o)
notes-none groups old o e f = ap (λ l. stacked_notes l o) f ∙ none_notes o ∙ ap (λ l. option_map notes_closed (stacked_notes l o)) (sym e)

pub notes-opened : (kind : GroupKind) (groups : List Group) (o : Option Notes) → stacked_notes (record { kind = kind; saves = 0 } ∷ groups) o ≡ option_map notes_opened (stacked_notes groups o)
notes-opened kind groups None = refl
notes-opened kind groups (Some m) = refl

-- the numbers of saves
pub open-length : (g : Group) (around : List Group) (e : Bool) → e ≡ nat_eq (length around) 0 → not e ≡ is_open (groups_of g around)
open-length g [] e h = ap not h
open-length g (h ∷ around) e i = grind arith

pub innermost-of : (g : Group) (around : List Group) (e : Bool) → e ≡ nat_eq (length around) 0 → e ≡ false → Some g.kind ≡ innermost (groups_of g around)
innermost-of g [] e h f = grind arith
innermost-of g (h ∷ around) e i f = refl

pub length-groups : (g : Group) (around : List Group) → length (groups_of g around) ≡ length around
length-groups g [] = refl
length-groups g (h ∷ around) = ap suc (length-groups h around)

pub has_room : (g : Group) (around : List Group) → g.saves < 18446744073709551615 → HasRoom (groups_of g around)
has_room g [] h = tt
has_room g (m ∷ around) h = omega arith

pub groups_of-one_more : (g : Group) (r : ℕ) (around : List Group) → r ≡ min (g.saves + 1) 18446744073709551615 → HasRoom (groups_of g around) → groups_of (record g { saves = r }) around ≡ one_more (groups_of g around)
groups_of-one_more g r [] e h = refl
groups_of-one_more g r (m ∷ around) e h = let is : r ≡ suc g.saves = omega arith in ap (λ n. record g { saves = n } ∷ groups_of m around) is

pub not_false : (b : Bool) → not b ≡ false → b ≡ true
not_false true h = refl
not_false false h = cc

looked_by : (groups : List Group) (c : Cell) (n : Notes) (b : Bool)
    → ◌≡◌ {A = StackedNotes} (record { told = (cond b n (record n { told = with_cell c n.told })).told; written = stacked groups (cond b n (record n { told = with_cell c n.told })).written })
    (cond b (record { told = n.told; written = stacked groups n.written }) (record { told = with_cell c n.told; written = stacked groups n.written }))
looked_by groups c n true = refl
looked_by groups c n false = refl

pub notes-looked : (groups : List Group) (c : Cell) (o : Option Notes) → stacked_notes groups (option_map (noted c) o) ≡ option_map (looked c) (stacked_notes groups o)
notes-looked groups c None = refl
notes-looked groups c (Some n) = λ i. Some (looked_by groups c n (n.written.now c) i)

-- a reading inside groups
pub notes-told : (groups : List Group) (c : Cell) (o n : Option Notes) → n ≡ option_map (noted c) o → stacked_notes groups n ≡ option_map (looked c) (stacked_notes groups o)
notes-told groups c o n h = ap (stacked_notes groups) h ∙ notes-looked groups c o

notes_ok : {X E : Type 0} (groups : List Group) (c : Cell) (result : Result X E) (o n : Option Notes) → OnOk result (n ≡ option_map (noted c) o)
    → OnOk result (stacked_notes groups n ≡ option_map (looked c) (stacked_notes groups o))
notes_ok groups c (Ok x) o n h = notes-told groups c o n h
notes_ok groups c (Err e) o n h = tt

notes_err : {X E : Type 0} (groups : List Group) (result : Result X E) (o n : Option Notes) → OnErr result (n ≡ o) → OnErr result (stacked_notes groups n ≡ stacked_notes groups o)
notes_err groups (Ok x) o n h = tt
notes_err groups (Err e) o n h = ap (stacked_notes groups) h

pub tells_in : {S X E : Type 0} (C : Ghosts S) (groups : List Group) (cell : Cell) (f : Value → X) (result : Result X E) (new old : S) → Tells C cell f result new old → TellsIn C groups cell f result new old
tells_in C groups cell f result new old t = record {
  narrows = t.narrows;
  value = t.value;
  stays = t.stays;
  notes = notes_ok groups cell result (C.notes old) (C.notes new) t.notes;
  notes_on_err = notes_err groups result (C.notes old) (C.notes new) t.notes_on_err;
  made = t.made;
  loan = t.loan;
}

pub value_in : (groups : List Group) (c : Cell) (o n : Option Notes) → n ≡ option_map (noted c) o → stacked_notes groups n ≡ option_map (looked c) (stacked_notes groups o)
value_in = notes-told

-- saves that stand
pub standing-opened : {X : Type 0} (kind : GroupKind) (groups : List Group) (k : Kept X) → Standing groups k → Standing (record { kind = kind; saves = 0 } ∷ groups) k
standing-opened kind groups k h = let e : saves_in groups ≤ length k.saves = h in omega arith

more_saved : (n t s : ℕ) → n + t ≤ s → suc n + t ≤ suc s
more_saved n t s h = omega arith

pub standing-saved : {X : Type 0} (groups : List Group) (c : Cell) (x : X) (k : Kept X) → is_open groups ≡ true → Standing groups k → Standing (one_more groups) (changed Local c x (saved c k))
standing-saved [] c x k o h = cc
standing-saved (g ∷ groups) c x k o h = more_saved g.saves (saves_in groups) (length k.saves) h

pub standing-global : {X : Type 0} (groups : List Group) (c : Cell) (x : X) (k : Kept X) → Standing groups k → Standing groups (changed Global c x k)
standing-global groups c x k h = subst (λ n. saves_in groups ≤ n) (sym (length-map k.saves (void_save c))) h

fewer_saves : {X : Type 0} (n m : ℕ) (saves : List (Save X)) → m ≤ length saves + n → m ≤ length (saves_undone saves) + suc n
fewer_saves n m [] h = omega arith
fewer_saves n m (s ∷ saves) h = let e : m ≤ suc (length saves) + n = h in omega arith

undone_by-length : {X : Type 0} (n : ℕ) (k : Kept X) → length k.saves ≤ length (undone_by n k).saves + n
undone_by-length zero k = omega arith
undone_by-length (suc n) k = fewer_saves n (length k.saves) (undone_by n k).saves (undone_by-length n k)

closed_saves : (n t s u : ℕ) → n + t ≤ s → s ≤ u + n → t ≤ u
closed_saves n t s u h e = omega arith

pub standing-closed : {X : Type 0} (g : Group) (groups old : List Group) (k u : Kept X) → old ≡ g ∷ groups → u ≡ undone_by g.saves k → Standing old k → Standing groups u
standing-closed g groups old k u e d h =
    subst (λ v. Standing groups v) (sym d)
    (closed_saves g.saves (saves_in groups) (length k.saves) (length (undone_by g.saves k).saves) (subst (λ o. Standing o k) e h) (undone_by-length g.saves k))

more_left : (i n s u : ℕ) → i < n → n ≤ s → s ≤ u + i → 0 < u
more_left i n s u a b e = omega arith

pub more_saves : {X : Type 0} (i n : ℕ) (k : Kept X) → i < n → n ≤ length k.saves → 0 < length (undone_by i k).saves
more_saves i n k h e = more_left i n (length k.saves) (length (undone_by i k).saves) h e (undone_by-length i k)

first_stands : (n t s : ℕ) → n + t ≤ s → n ≤ s
first_stands n t s h = omega arith

-- the first of them
pub count_stands : {X : Type 0} (g : Group) (groups old : List Group) (k : Kept X) → old ≡ g ∷ groups → Standing old k → g.saves ≤ length k.saves
count_stands g groups old k e h = first_stands g.saves (saves_in groups) (length k.saves) (subst (λ o. Standing o k) e h)
