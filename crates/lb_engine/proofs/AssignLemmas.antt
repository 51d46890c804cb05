-- Assignments inside groups as rows.
use Rattle.std.proofs.Common.{◌≡◌, ◌∙◌, [], true, ℕ, List, Some, None, ap, refl, subst, sym}
use Rattle.std.specs.Prelude.{Option, Ok, Err, is_some}
use Rattle.std.specs.Option.{option_map}
use Rattle.lb_base.specs.declared.fault.Kind.{Kind}
use Rattle.lb_base.specs.declared.fault.Stop.{Stop}
use Rattle.lb_base.specs.declared.fault.Stop.TheVariants.{Fault}
use Rattle.lb_values.specs.declared.cell.Cell.{Cell}
use Rattle.lb_values.specs.declared.cell.Cell.TheVariants as cell
use Rattle.lb_values.specs.declared.cell.RegisterKind.{RegisterKind}
use Rattle.lb_values.specs.declared.cell.RegisterKind.TheVariants as kind
use Rattle.lb_values.specs.declared.meaning.Meaning.{Meaning}
use Rattle.lb_values.specs.declared.reach.Reach.{Reach}
use Rattle.lb_values.specs.declared.value.Value.{Value}
use Rattle.lb_values.specs.declared.value.Value.TheVariants as value
use Rattle.lb_model.specs.declared.cells.Cells.{Ghosts}
use Rattle.lb_model.specs.declared.group.Group.{Group}
use Rattle.lb_model.specs.declared.world.World.{World}
use Rattle.lb_model.specs.Assignments.{assigned_to}
use Rattle.lb_model.specs.Ranges.{fits, is_meaning, is_settable}
use Rattle.lb_model.specs.Settings.{State}
use Rattle.lb_model.specs.Stacked.{StackedNotes, looked_all, notes_assigned, stacked_notes}
use Rattle.lb_groups.specs.Changes.{Assigns}
use Rattle.lb_model_nest.specs.declared.turn.Went.TheVariants.{On, Stopped}
use Rattle.lb_model_nest.specs.Wholes.{Executed, Whole, change_or, looking}
use Rattle.lb_model_engine.specs.Definitions.{register_meaning}
use Rattle.lb_engine.specs.Names.{is_name}
use Rattle.lb_engine.specs.Leads.{Goes, Holds, Leads}
use Rattle.lb_engine.specs.Views.{whole}
use Rattle.lb_engine.specs.declared.engine.Engine.{Engine}

-- cells are looked at, and a cell is set to what comes of the present state
abbrev pub assigning : List Cell → Kind → Reach → Cell → (World → State → Option Value) → Whole → Executed
assigning looks kind reach cell to w = looking looks (change_or kind reach cell (to w.feed.world w.feed.cells.now) w)

-- an engine with these groups
abbrev pub with_groups : List Group → Engine → Engine
with_groups groups e = record e { desk = record e.desk { groups = groups } }

set-done : (kind : Kind) (reach : Reach) (cell : Cell) (v : Option Value) (w : Whole) → is_some v ≡ true
    → (change_or kind reach cell v w).done ≡ record { went = On; next = record w { feed = record w.feed { cells = assigned_to reach cell v w.feed.cells } } }
set-done kind reach cell (Some v) w is = refl
set-done kind reach cell None w is = cc

set-notes : (looks : List Cell) (kind : Kind) (reach : Reach) (cell : Cell) (v : Option Value) (w : Whole) (n : Option StackedNotes) → is_some v ≡ true
    → (change_or kind reach cell v w).noted (option_map (looked_all looks) n) ≡ option_map (λ m. notes_assigned reach cell (looked_all looks m)) n
set-notes looks kind reach cell (Some v) w (Some n) is = refl
set-notes looks kind reach cell (Some v) w None is = refl
set-notes looks kind reach cell None w n is = cc

-- the cell is set
pub assigns-on : {S F : Type 0} (C : Ghosts S) (looks : List Cell) (reach : Reach) (cell : Cell) (to : World → State → Option Value) (kind : Kind) {X : Type 0} (x : X) {new : S} {groups : List Group} {old : S} {e : Engine}
    → Holds C old e → Assigns C looks reach cell to kind (Ok x) new groups old e.desk.groups
    → Goes {E = F} C (assigning looks kind reach cell to) (Ok On) new (with_groups groups e) old e
assigns-on C looks reach cell to kind x {new} {groups} {old} {e} holds a =
    record {
      narrows = a.narrows;
      passes = record {
        done =
            λ p h.
            let w : Whole = whole p (C.meaning old p) e in
            set-done kind reach cell (to p.world (C.meaning old p).now) w (a.value p h)
            ∙ (λ i. record { went = On; next = record w { feed = record w.feed { cells = sym (a.ok p h) i; groups = sym a.kinds i } } });
        notes =
            λ p h.
            let w : Whole = whole p (C.meaning old p) e in
            set-notes looks kind reach cell (to p.world (C.meaning old p).now) w (stacked_notes e.desk.groups (C.notes old)) (a.value p h) ∙ sym a.notes;
      };
      keeps = λ p h. let k = holds p (a.narrows p h) in record { standing = a.standing p h k.standing; fonts = k.fonts };
      made = a.made;
      loan = a.loan;
    }

-- there is nothing to set it to
pub assigns-stopped : {S F : Type 0} (C : Ghosts S) (looks : List Cell) (reach : Reach) (cell : Cell) (to : World → State → Option Value) (kind k : Kind) {X : Type 0} {new : S} {groups : List Group} {old : S} {e : Engine}
    → Holds C old e → Assigns {X = X} C looks reach cell to kind (Err (Fault k)) new groups old e.desk.groups
    → Goes {E = F} C (assigning looks kind reach cell to) (Ok (Stopped k)) new (with_groups groups e) old e
assigns-stopped C looks reach cell to kind k {X} {new} {groups} {old} {e} holds a =
    record {
      narrows = a.narrows;
      passes = record {
        done =
            λ p h.
            let w : Whole = whole p (C.meaning old p) e in
            ap (λ v. (change_or kind reach cell v w).done) (a.fault.1 p h)
            ∙ (λ i. record { went = Stopped (sym a.fault.0 i); next = record w { feed = record w.feed { cells = sym (a.same p h) i; groups = sym a.kinds i } } });
        notes =
            λ p h.
            let w : Whole = whole p (C.meaning old p) e in
            ap (λ v. (change_or kind reach cell v w).noted (option_map (looked_all looks) (stacked_notes e.desk.groups (C.notes old)))) (a.fault.1 p h) ∙ sym a.notes_on_fault;
      };
      keeps = λ p h. let k = holds p (a.narrows p h) in record { standing = a.standing p h k.standing; fonts = k.fonts };
      made = a.made;
      loan = a.loan;
    }

pub assigns-fault : {S F : Type 0} (C : Ghosts S) (looks : List Cell) (reach : Reach) (cell : Cell) (to : World → State → Option Value) (kind k : Kind) {X : Type 0} {f : Stop} {new : S} {groups : List Group} {old : S} {e : Engine}
    → f ≡ Fault k → Holds C old e → Assigns {X = X} C looks reach cell to kind (Err f) new groups old e.desk.groups
    → Goes {E = F} C (assigning looks kind reach cell to) (Ok (Stopped k)) new (with_groups groups e) old e
assigns-fault C looks reach cell to kind k {X} {f} {new} {groups} {old} {e} is holds a =
    assigns-stopped C looks reach cell to kind k holds (subst (λ s. Assigns {X = X} C looks reach cell to kind (Err s) new groups old e.desk.groups) is a)

-- ---- Where no cell is looked at

none-looked : (n : Option StackedNotes) → option_map (looked_all []) n ≡ n
none-looked None = refl
none-looked (Some n) = refl

pub without-looks : {S E X : Type 0} {C : Ghosts S} (act : Whole → Executed) {rest : X → Whole → Executed} (x : X) {new : S} {en : Engine} {old : S} {e : Engine}
    → Leads {E = E} C (λ w. looking [] (act w)) rest (Ok x) new en old e → Leads {E = E} C act rest (Ok x) new en old e
without-looks {S} {E} {X} {C} act x {new} {en} {old} {e} first =
    record {
      narrows = first.narrows;
      passes = record {
        done = first.passes.done;
        notes = λ p h. ap (λ n. (act (whole p (C.meaning old p) e)).noted n) (sym (none-looked (stacked_notes e.desk.groups (C.notes old)))) ∙ first.passes.notes p h;
      };
      keeps = first.keeps;
      made = first.made;
      loan = first.loan;
    }

-- ---- Names

pub name-settable : (c : Cell) (m : Meaning) → is_name c ≡ true → is_settable c (value.Meaning m) ≡ true
name-settable (cell.Word name) m e = refl
name-settable (cell.Active code) m e = refl
name-settable c m e = cc

pub name-fits : (c : Cell) (m : Meaning) → is_name c ≡ true → is_meaning m ≡ true → fits c (value.Meaning m) ≡ true
name-fits (cell.Word name) m e h = h
name-fits (cell.Active code) m e h = h
name-fits c m e h = cc

pub register-meaning : (kind : RegisterKind) (n : ℕ) → is_meaning (register_meaning kind n) ≡ true
register-meaning kind.Count n = refl
register-meaning kind.Dimen n = refl
register-meaning kind.Skip n = refl
register-meaning kind.Toks n = refl
register-meaning kind.Boxed n = refl
