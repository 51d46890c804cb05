-- Cells that are looked at for a value, one list behind another, and what is done with the value.
use Rattle.std.proofs.Common.{◌≡◌, ◌∙◌, ◌++◌, ◌∷◌, [], List, ap, refl, subst, sym, map}
use Rattle.std.specs.Prelude.{Result, Ok, Err, IfOk, IsErr, ℕ, Option, Some, None, unwrap_or}
use Rattle.std.specs.Option.{option_map}
use Rattle.lb_values.specs.declared.cell.Cell.{Cell}
use Rattle.lb_values.specs.declared.value.Value.{Value}
use Rattle.lb_values.specs.Kept.{Kept}
use Rattle.lb_model.specs.declared.cells.Cells.{Ghosts}
use Rattle.lb_model.specs.declared.group.Group.{Group}
use Rattle.lb_model.specs.Settings.{Setting}
use Rattle.lb_model.specs.Stacked.{Standing, StackedNotes, looked_all, stacked_notes}
use Rattle.lb_groups.specs.Open.{TellsIn}
use Rattle.lb_model_nest.specs.Wholes.{Executed, Whole, looking, tells}
use Rattle.lb_nest.specs.Leads.{Looks}
use Rattle.lb_nest.specs.Views.{whole as nest_whole}
use Rattle.lb_nest.proofs.LeadsLemmas.{looked-append-of}
use Rattle.lb_engine.specs.Leads.{Holds, Leads, Passes}
use Rattle.lb_engine.specs.Views.{whole}
use Rattle.lb_engine.specs.declared.engine.Engine.{Engine}
use Rattle.lb_engine.proofs.LeadsLemmas.{leads-after}

-- ---- One list behind another

nothing-looked : (o : Option StackedNotes) → o ≡ option_map (looked_all []) o
nothing-looked None = refl
nothing-looked (Some n) = refl

pub looks-none : {S X E : Type 0} (C : Ghosts S) (g : List Group) (f : Whole → X) (x : X) (s : S) → ((w : Whole) → f w ≡ x) → Looks {E = E} C g [] f (Ok x) s s
looks-none C g f x s is = record { narrows = λ p h. h; value = λ p h w left n. is _; stays = λ p h. refl; notes = nothing-looked (stacked_notes g (C.notes s)); made = refl; loan = refl }

pub looks-both : {S X Y Z E F G : Type 0} {C : Ghosts S} {g : List Group} {cells more : List Cell} {f : Whole → X} {h : Whole → Y} {x : X} {y : Y} {new mid old : S} (make : X → Y → Z)
    → Looks {E = E} C g cells f (Ok x) mid old → Looks {E = F} C g more h (Ok y) new mid → Looks {E = G} C g (cells ++ more) (λ w. make (f w) (h w)) (Ok (make x y)) new old
looks-both {S} {X} {Y} {Z} {E} {F} {G} {C} {g} {cells} {more} {f} {h} {x} {y} {new} {mid} {old} make first second =
    record {
      narrows = λ p a. first.narrows p (second.narrows p a);
      value =
          λ p a w left n.
          ap (λ u. make u (h (nest_whole w p (C.meaning old p) g left n))) (first.value p (second.narrows p a) w left n)
          ∙ ap (λ k. make x (h (nest_whole w p k g left n))) (sym (first.stays p (second.narrows p a)))
          ∙ ap (make x) (second.value p a w left n);
      stays = λ p a. second.stays p a ∙ first.stays p (second.narrows p a);
      notes = second.notes ∙ ap (option_map (looked_all more)) first.notes ∙ sym (looked-append-of cells more (stacked_notes g (C.notes old)));
      made = second.made ∙ first.made;
      loan = second.loan ∙ first.loan;
    }

-- for any error that does not come
pub looks-ok : {S X E F : Type 0} {C : Ghosts S} {g : List Group} {cells : List Cell} {f : Whole → X} {x : X} {new old : S} → Looks {E = E} C g cells f (Ok x) new old → Looks {E = F} C g cells f (Ok x) new old
looks-ok l = record { narrows = l.narrows; value = l.value; stays = l.stays; notes = l.notes; made = l.made; loan = l.loan }

-- cells that are these, for a value that is this
pub looks-is : {S X E : Type 0} {C : Ghosts S} {g : List Group} {cells more : List Cell} {f h : Whole → X} {x y : X} {new old : S}
    → cells ≡ more → f ≡ h → x ≡ y → Looks {E = E} C g cells f (Ok x) new old → Looks {E = E} C g more h (Ok y) new old
looks-is {S} {X} {E} {C} {g} {cells} {more} {f} {h} {x} {y} {new} {old} c v is l = subst (λ (t : (List Cell × (Whole → X)) × X). Looks {E = E} C g t.0.0 t.0.1 (Ok t.1) new old) (λ i. ((c i, v i), is i)) l

-- ---- What is done with the value

-- the rest of a configuration: what was added to the journal before the nest adds more
abbrev whole_rest : Setting → Kept Value → Engine → Whole
whole_rest p k e = let w : Whole = whole p k e in record w { feed = record w.feed { appends = e.desk.appends.items } }

pub looks-passes : {S X E : Type 0} (C : Ghosts S) (cells : List Cell) (f : Whole → X) (row : X → Whole → Executed) (v : X) {new old : S} {e : Engine}
    → Looks {E = E} C e.desk.groups cells f (Ok v) new old → Passes C (λ w. looking cells (row (f w) w)) (row v) new e old e
looks-passes C cells f row v {new} {old} {e} l =
    record {
      done =
          λ p h.
          ap (λ x. (row x (whole p (C.meaning old p) e)).done) (l.value p h (whole_rest p (C.meaning old p) e) e.desk.left e.nest)
          ∙ ap (λ k. (row v (whole p k e)).done) (sym (l.stays p h));
      notes =
          λ p h.
          let n = option_map (looked_all cells) (stacked_notes e.desk.groups (C.notes old)) in
          ap (λ x. (row x (whole p (C.meaning old p) e)).noted n) (l.value p h (whole_rest p (C.meaning old p) e) e.desk.left e.nest)
          ∙ ap (λ k. (row v (whole p k e)).noted n) (sym (l.stays p h))
          ∙ ap (λ m. (row v (whole p (C.meaning new p) e)).noted m) (sym l.notes);
    }

pub looks-holds : {S X E : Type 0} (C : Ghosts S) (e : Engine) {cells : List Cell} {f : Whole → X} {v : X} {new old : S}
    → Holds C old e → Looks {E = E} C e.desk.groups cells f (Ok v) new old → Holds C new e
looks-holds C e {cells} {f} {v} {new} {old} holds l =
    λ p h.
    let k = holds p (l.narrows p h) in
    record { standing = subst (λ m. Standing e.desk.groups m) (sym (l.stays p h)) k.standing; fonts = k.fonts }

pub looks-then : {S E F X Y : Type 0} (C : Ghosts S) (cells : List Cell) (f : Whole → X) (row : X → Whole → Executed) {rest : Y → Whole → Executed} (v : X) (result : Result Y F) {new : S} {en : Engine} {mid old : S} {e : Engine}
    → Looks {E = E} C e.desk.groups cells f (Ok v) mid old → Leads C (row v) rest result new en mid e → Leads C (λ w. looking cells (row (f w) w)) rest result new en old e
looks-then C cells f row v result {new} {en} {mid} {old} {e} l second = leads-after result l.narrows (looks-passes C cells f row v l) l.made l.loan second

-- memory was wanted
pub looks-failed : {S E F X Y : Type 0} {C : Ghosts S} {g : List Group} {cells : List Cell} {f : Whole → X} {read : Result X E} {act : Whole → Executed} {rest : Y → Whole → Executed} (result : Result Y F) {new old : S} {e : Engine}
    → IsErr result → Looks C g cells f read new old → Leads C act rest result new e old e
looks-failed (Ok y) is l = cc
looks-failed (Err x) is l = record { narrows = l.narrows; passes = tt; keeps = tt; made = l.made; loan = l.loan }

-- ---- One cell

-- what is made of what it tells
pub looks-told : {S E F X Y : Type 0} {C : Ghosts S} {g : List Group} {cell : Cell} {f : Value → X} {v : X} (make : X → Y) (result : Result Y F) {new old : S}
    → IfOk result (λ y. make v ≡ y) → TellsIn {E = E} C g cell f (Ok v) new old → Looks C g (cell ∷ []) (λ w. make (f (tells w cell))) result new old
looks-told make (Ok y) is t = record { narrows = t.narrows; value = λ p h w left n. ap make (t.value p h) ∙ is; stays = t.stays; notes = t.notes; made = t.made; loan = t.loan }
looks-told make (Err e) is t = record { narrows = t.narrows; value = tt; stays = t.stays; notes = tt; made = t.made; loan = t.loan }

-- a list that may be missing
pub or-empty : {X E : Type 0} (o : Option (List X)) (result : Result (List X) E) → o ≡ None → IfOk result (λ y. y ≡ []) → IfOk result (λ y. unwrap_or o [] ≡ y)
or-empty o (Ok y) is e = ap (λ n. unwrap_or n []) is ∙ sym e
or-empty o (Err x) is e = tt

-- memory was wanted behind what was looked at
pub looks-dropped : {S E F X Y : Type 0} {C : Ghosts S} {g : List Group} {cells more : List Cell} {f : Whole → X} {h : Whole → Y} {read : Result X E} (result : Result Y F) {new old : S}
    → IsErr result → Looks C g cells f read new old → Looks C g more h result new old
looks-dropped (Ok y) is l = cc
looks-dropped (Err x) is l = record { narrows = l.narrows; value = tt; stays = l.stays; notes = tt; made = l.made; loan = l.loan }

-- the main file's name
pub looks-main : {S E : Type 0} (C : Ghosts S) (e : Engine) {g : List Group} {cells : List Cell} {main : List ℕ} {new old : S} → Looks {E = E} C g cells (λ w. w.feed.world.main) (Ok main) new old
    → (p : Setting) → C.agrees new p → p.world.main ≡ main
looks-main C e {old = old} l p h = l.value p h (whole_rest p (C.meaning old p) e) e.desk.left e.nest
