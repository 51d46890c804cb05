-- Groups that open and close, and cells that are set.
use Rattle.std.proofs.Common.{◌≡◌, ◌∙◌, ◌≤◌, ◌<◌, true, false, ℕ, List, [], ◌∷◌, Some, None, ap, length, nat_lt, refl, sym}
use Rattle.std.specs.Prelude.{Option, if◌then◌else◌}
use Rattle.std.specs.Option.{option_map}
use Rattle.std.proofs.lemmas.Bool.{le-ltb, lt-ltb}
use Rattle.std.proofs.lemmas.List.{length-map}
use Rattle.lb_base.specs.declared.fault.Kind.TheVariants.{DepthLimit, GroupExtra}
use Rattle.lb_values.specs.declared.cell.Cell.{Cell}
use Rattle.lb_values.specs.declared.reach.Reach.{Reach}
use Rattle.lb_values.specs.declared.value.Value.{Value}
use Rattle.lb_groups.specs.Open.{closed_kinds, innermost as innermost_of}
use Rattle.lb_model.specs.declared.cells.Cells.{Ghosts}
use Rattle.lb_model.specs.declared.group.Group.{Group}
use Rattle.lb_model.specs.declared.group.GroupKind.{GroupKind}
use Rattle.lb_model.specs.Assignments.{is_innermost}
use Rattle.lb_model.specs.Settings.{Notes, Setting}
use Rattle.lb_model.specs.Stacked.{assigned, closed, kinds_of, notes_assigned, notes_closed, notes_opened, stacked, stacked_notes}
use Rattle.lb_model_nest.specs.declared.turn.Went.TheVariants.{On, Stopped}
use Rattle.lb_model_nest.specs.Groups.{after_around, group_added, group_closed, group_left, group_opened, innermost, kinds_around, later_of}
use Rattle.lb_model_nest.specs.Wholes.{Whole, and_then, change, executed, put, stop}
use Rattle.lb_nest.specs.Groups.{behind_group}
use Rattle.lb_nest.specs.Leads.{Passes}
use Rattle.lb_nest.specs.Views.{anywhere, whole}
use Rattle.lb_nest.specs.declared.groups.Closed.TheVariants as closed_as
use Rattle.lb_nest.specs.declared.nest.Nest.{Nest}

kinds-length : (groups : List Group) → length (kinds_of groups) ≡ length groups
kinds-length groups = length-map groups (λ g. g.kind)

-- ---- A group that opens

notes-opened : (kind : GroupKind) (groups : List Group) (o : Option Notes) → option_map notes_opened (stacked_notes groups o) ≡ stacked_notes (record { kind = kind; saves = 0 } ∷ groups) o
notes-opened kind groups None = refl
notes-opened kind groups (Some n) = refl

room : (groups : List Group) → length groups < 10000 → nat_lt (length (kinds_of groups)) 10000 ≡ true
room groups h = ap (λ n. nat_lt n 10000) (kinds-length groups) ∙ lt-ltb (length groups) 10000 h

no-room : (groups : List Group) → 10000 ≤ length groups → nat_lt (length (kinds_of groups)) 10000 ≡ false
no-room groups h = ap (λ n. nat_lt n 10000) (kinds-length groups) ∙ le-ltb (length groups) 10000 h

pub opened-passes : {S : Type 0} (C : Ghosts S) (kind : GroupKind) (s : S) (groups : List Group) (left : ℕ) (n : Nest) → length groups < 10000
    → Passes C anywhere (group_opened kind) (executed On) s (record { kind = kind; saves = 0 } ∷ groups) left (record n { after = [] ∷ n.after }) s groups left n
unfolding group_opened
opened-passes C kind s groups left n h =
    record {
      done = λ w p o a. let v : Whole = whole w p (C.meaning s p) groups left n in ap (λ b. (if b then group_added kind v else stop DepthLimit v).done) (room groups h);
      notes =
          λ w p o a.
          let v : Whole = whole w p (C.meaning s p) groups left n in
          ap (λ b. (if b then group_added kind v else stop DepthLimit v).noted (stacked_notes groups (C.notes s))) (room groups h) ∙ notes-opened kind groups (C.notes s);
    }

pub full-passes : {S : Type 0} (C : Ghosts S) (kind : GroupKind) (s : S) (groups : List Group) (left : ℕ) (n : Nest) → 10000 ≤ length groups
    → Passes C anywhere (group_opened kind) (executed (Stopped DepthLimit)) s groups left n s groups left n
unfolding group_opened
full-passes C kind s groups left n h =
    record {
      done = λ w p o a. let v : Whole = whole w p (C.meaning s p) groups left n in ap (λ b. (if b then group_added kind v else stop DepthLimit v).done) (no-room groups h);
      notes = λ w p o a. let v : Whole = whole w p (C.meaning s p) groups left n in ap (λ b. (if b then group_added kind v else stop DepthLimit v).noted (stacked_notes groups (C.notes s))) (no-room groups h);
    }

-- ---- A group that closes

same-innermost : (groups : List Group) → innermost (kinds_of groups) ≡ innermost_of groups
same-innermost [] = refl
same-innermost (g ∷ groups) = refl

same-kinds : (kinds : List GroupKind) → kinds_around kinds ≡ closed_kinds kinds
same-kinds [] = refl
same-kinds (kind ∷ kinds) = refl

pub closed-passes : {S : Type 0} (C : Ghosts S) (kind : GroupKind) {new old : S} {gn go : List Group} (left : ℕ) (n : Nest) → is_innermost kind (innermost_of go) ≡ true
    → ((p : Setting) → C.agrees new p → stacked gn (C.meaning new p) ≡ closed (stacked go (C.meaning old p))) → kinds_of gn ≡ closed_kinds (kinds_of go)
    → stacked_notes gn (C.notes new) ≡ option_map notes_closed (stacked_notes go (C.notes old))
    → Passes C anywhere (group_closed kind) (behind_group (closed_as.Later (later_of n.after))) new gn left (record n { after = after_around n.after }) old go left n
unfolding group_closed
closed-passes C kind {new} {old} {gn} {go} left n is cells kinds notes =
    record {
      done =
          λ w p o h.
          let v : Whole = whole w p (C.meaning old p) go left n in
          let inner = ap (is_innermost kind) (same-innermost go) ∙ is in
          ap (λ b. (if b then and_then (group_left v) (put (later_of v.after)) else stop GroupExtra v).done) inner
          ∙ (λ i. (put (later_of n.after) (record (whole w p (C.meaning old p) go left (record n { after = after_around n.after })) { feed = record v.feed { cells = sym (cells p h) i; groups = (same-kinds (kinds_of go) ∙ sym kinds) i } })).done);
      notes =
          λ w p o h.
          let v : Whole = whole w p (C.meaning old p) go left n in
          let inner = ap (is_innermost kind) (same-innermost go) ∙ is in
          ap (λ b. (if b then and_then (group_left v) (put (later_of v.after)) else stop GroupExtra v).noted (stacked_notes go (C.notes old))) inner
          ∙ (λ i. (put (later_of n.after) (record (whole w p (C.meaning old p) go left (record n { after = after_around n.after })) { feed = record v.feed { cells = sym (cells p h) i; groups = (same-kinds (kinds_of go) ∙ sym kinds) i } })).noted (sym notes i));
    }

pub extra-passes : {S : Type 0} (C : Ghosts S) (kind : GroupKind) (s : S) (groups : List Group) (left : ℕ) (n : Nest) → is_innermost kind (innermost_of groups) ≡ false
    → Passes C anywhere (group_closed kind) (behind_group (closed_as.Stops GroupExtra)) s groups left n s groups left n
unfolding group_closed
extra-passes C kind s groups left n is =
    record {
      done =
          λ w p o h.
          let v : Whole = whole w p (C.meaning s p) groups left n in
          ap (λ b. (if b then and_then (group_left v) (put (later_of v.after)) else stop GroupExtra v).done) (ap (is_innermost kind) (same-innermost groups) ∙ is);
      notes =
          λ w p o h.
          let v : Whole = whole w p (C.meaning s p) groups left n in
          ap (λ b. (if b then and_then (group_left v) (put (later_of v.after)) else stop GroupExtra v).noted (stacked_notes groups (C.notes s))) (ap (is_innermost kind) (same-innermost groups) ∙ is);
    }

-- ---- A cell that is set

pub changed-passes : {S : Type 0} (C : Ghosts S) (reach : Reach) (cell : Cell) (v : Value) {new old : S} {gn go : List Group} (left : ℕ) (n : Nest)
    → ((p : Setting) → C.agrees new p → stacked gn (C.meaning new p) ≡ assigned reach cell v (stacked go (C.meaning old p))) → kinds_of gn ≡ kinds_of go
    → stacked_notes gn (C.notes new) ≡ option_map (notes_assigned reach cell) (stacked_notes go (C.notes old))
    → Passes C anywhere (change reach cell v) (executed On) new gn left n old go left n
changed-passes C reach cell v {new} {old} {gn} {go} left n cells kinds notes =
    record {
      done =
          λ w p o h.
          let u : Whole = whole w p (C.meaning old p) go left n in
          (λ i. record { went = On; next = record u { feed = record u.feed { cells = sym (cells p h) i; groups = sym kinds i } } });
      notes = λ w p o h. sym notes;
    }
