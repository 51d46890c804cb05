-- Calls of which each goes on where the one before ended.
use Rattle.std.proofs.Common.{◌≡◌, ◌∙◌, ◌++◌, ℕ, List, [], ◌∷◌, ap, refl, subst, sym}
use Rattle.std.specs.Prelude.{⊤, Result, Ok, Err}
use Rattle.lb_base.specs.declared.node.Node.{Node}
use Rattle.lb_values.specs.declared.cell.Cell.{Cell}
use Rattle.lb_model.specs.declared.cells.Cells.{Ghosts}
use Rattle.lb_model.specs.declared.group.Group.{Group}
use Rattle.lb_model.specs.Settings.{Setting}
use Rattle.std.specs.Option.{option_map}
use Rattle.lb_model.specs.Stacked.{looked_all, stacked_notes}
use Rattle.lb_model_nest.specs.declared.turn.Went.{Went}
use Rattle.lb_model_nest.specs.declared.turn.Went.TheVariants.{On}
use Rattle.lb_model_nest.specs.Paragraphs.{line_added}
use Rattle.lb_model_nest.specs.Wholes.{Executed, Whole, executed}
use Rattle.lb_nest.specs.Endings.{made_added}
use Rattle.lb_nest.specs.Leads.{Leads, Looks}
use Rattle.lb_nest.specs.Views.{Keeps, anywhere, whole}
use Rattle.lb_nest.specs.declared.nest.Nest.{Nest}
use Rattle.lb_nest.proofs.LeadsLemmas.{leads-after, leads-ended, leads-then, looked-append-of, same-left}

-- what was done so far, with this still to do
pub record Comes {S : Type 0} (C : Ghosts S) (of : Whole → Type 0) (act more : Whole → Executed) (new : S) (gn : List Group) (ln : ℕ) (nn : Nest) (old : S) (go : List Group) (lo : ℕ) (no : Nest) : Type 0 where
  pub leads : Leads {E = ⊤} C of act (λ (u : ⊤). more) (Ok tt) new gn ln nn old go lo no

pub leads-both : {S E X : Type 0} {C : Ghosts S} {of : Whole → Type 0} {act mid : Whole → Executed} {rest : X → Whole → Executed} (result : Result X E) {new : S} {gn : List Group} {ln : ℕ} {nn : Nest} {m : S} {gm : List Group} {lm : ℕ} {nm : Nest} {old : S} {go : List Group} {lo : ℕ} {no : Nest}
    → Comes C of act mid m gm lm nm old go lo no → Leads C of mid rest result new gn ln nn m gm lm nm → Leads C of act rest result new gn ln nn old go lo no
leads-both result first second = leads-after result first.leads.narrows first.leads.passes first.leads.left first.leads.made first.leads.loan second

-- nothing was done
pub leads-stay : {S E X : Type 0} (C : Ghosts S) {of : Whole → Type 0} (act : X → Whole → Executed) (x : X) {s : S} {g : List Group} {l : ℕ} {n : Nest}
    → ((p : Setting) → C.agrees s p → Keeps p (C.meaning s p) g n) → Leads {E = E} C of (act x) act (Ok x) s g l n s g l n
leads-stay C act x {s} {g} {l} {n} keeps =
    record { narrows = λ p h. h; passes = record { done = λ w p o h. refl; notes = λ w p o h. refl }; keeps = keeps; left = same-left l; made = refl; loan = refl }

-- a value is one whatever the errors are
pub leads-of : {S E F X : Type 0} {C : Ghosts S} {of : Whole → Type 0} {act : Whole → Executed} {rest : X → Whole → Executed} (x : X) {new : S} {gn : List Group} {ln : ℕ} {nn : Nest} {old : S} {go : List Group} {lo : ℕ} {no : Nest}
    → Leads {E = E} C of act rest (Ok x) new gn ln nn old go lo no → Leads {E = F} C of act rest (Ok x) new gn ln nn old go lo no
leads-of x l = record { narrows = l.narrows; passes = l.passes; keeps = l.keeps; left = l.left; made = l.made; loan = l.loan }

-- where there is no value, it does not matter what is done
pub leads-none : {S E X Y : Type 0} {C : Ghosts S} {of : Whole → Type 0} {act other : Whole → Executed} {rest : X → Whole → Executed} {next : Y → Whole → Executed} (e : E) {new : S} {gn : List Group} {ln : ℕ} {nn : Nest} {old : S} {go : List Group} {lo : ℕ} {no : Nest}
    → Leads C of act rest (Err e) new gn ln nn old go lo no → Leads C of other next (Err e) new gn ln nn old go lo no
leads-none e l = record { narrows = l.narrows; passes = tt; keeps = tt; left = l.left; made = l.made; loan = l.loan }

-- ---- Lines

pub lines-begin : {S : Type 0} (C : Ghosts S) {all rest : List (List Node)} {s : S} {g : List Group} {l : ℕ} {n : Nest} → rest ≡ all
    → ((p : Setting) → C.agrees s p → Keeps p (C.meaning s p) g n) → Comes C anywhere (made_added all) (made_added rest) s g l n s g l n
lines-begin {S} C {all} {rest} {s} {g} {l} {n} e keeps =
    record { leads = subst (λ (r : List (List Node)). Leads {E = ⊤} C anywhere (made_added all) (λ (u : ⊤). made_added r) (Ok tt) s g l n s g l n) (sym e) (leads-stay C (λ (u : ⊤). made_added all) tt keeps) }

lines-at : {S : Type 0} (C : Ghosts S) {act : Whole → Executed} {rest other : List (List Node)} {new : S} {gn : List Group} {ln : ℕ} {nn : Nest} {old : S} {go : List Group} {lo : ℕ} {no : Nest} → rest ≡ other
    → Comes C anywhere act (made_added rest) new gn ln nn old go lo no → Comes C anywhere act (made_added other) new gn ln nn old go lo no
lines-at C {act} {rest} {other} {new} {gn} {ln} {nn} {old} {go} {lo} {no} e first = subst (λ (r : List (List Node)). Comes C anywhere act (made_added r) new gn ln nn old go lo no) e first

-- a line was added, and the others are still to come
pub lines-more : {S E : Type 0} (C : Ghosts S) {act : Whole → Executed} (line : List Node) (lines rest : List (List Node)) {went : Went} {new : S} {gn : List Group} {ln : ℕ} {nn : Nest} {m : S} {gm : List Group} {lm : ℕ} {nm : Nest} {old : S} {go : List Group} {lo : ℕ} {no : Nest}
    → rest ≡ line ∷ lines → went ≡ On → Comes C anywhere act (made_added rest) m gm lm nm old go lo no → Leads {E = E} C anywhere (line_added (Ok line)) executed (Ok went) new gn ln nn m gm lm nm
    → ((p : Setting) → C.agrees new p → Keeps p (C.meaning new p) gn nn) → Comes C anywhere act (made_added lines) new gn ln nn old go lo no
lines-more {S} {E} C {act} line lines rest is on first second keeps =
    record { leads = leads-both (Ok tt) (lines-at C is first) (leads-then (line_added (Ok line)) (made_added lines) (Ok tt) on (leads-of _ second) (leads-stay C (λ (u : ⊤). made_added lines) tt keeps)) }

-- a line was not
pub lines-ended : {S E : Type 0} (C : Ghosts S) {act : Whole → Executed} (line : List Node) (lines rest : List (List Node)) (went : Went) {new : S} {gn : List Group} {ln : ℕ} {nn : Nest} {m : S} {gm : List Group} {lm : ℕ} {nm : Nest} {old : S} {go : List Group} {lo : ℕ} {no : Nest}
    → rest ≡ line ∷ lines → (went ≡ On → ⊥) → Comes C anywhere act (made_added rest) m gm lm nm old go lo no → Leads {E = E} C anywhere (line_added (Ok line)) executed (Ok went) new gn ln nn m gm lm nm
    → Leads {E = E} C anywhere act executed (Ok went) new gn ln nn old go lo no
lines-ended C line lines rest went is ends first second = leads-both (Ok went) (lines-at C is first) (leads-ended (line_added (Ok line)) (made_added lines) went ends second)

-- all lines were
pub lines-done : {S E : Type 0} (C : Ghosts S) {act : Whole → Executed} (rest : List (List Node)) {s : S} {g : List Group} {l : ℕ} {n : Nest} {old : S} {go : List Group} {lo : ℕ} {no : Nest}
    → rest ≡ [] → Comes C anywhere act (made_added rest) s g l n old go lo no → ((p : Setting) → C.agrees s p → Keeps p (C.meaning s p) g n) → Leads {E = E} C anywhere act executed (Ok On) s g l n old go lo no
lines-done C rest is first keeps = leads-both (Ok On) (lines-at C is first) (leads-stay C executed On keeps)

-- ---- Two looks

pub looks-both : {S E X Y Z : Type 0} {C : Ghosts S} {g : List Group} {a b : List Cell} {f : Whole → X} {h : Whole → Y} (join : X → Y → Z) (x : X) (y : Y) {new m old : S}
    → Looks {E = E} C g a f (Ok x) m old → Looks {E = E} C g b h (Ok y) new m → Looks {E = E} C g (a ++ b) (λ w. join (f w) (h w)) (Ok (join x y)) new old
looks-both {S} {E} {X} {Y} {Z} {C} {g} {a} {b} {f} {h} join x y {new} {m} {old} first second =
    record {
      narrows = λ p o. first.narrows p (second.narrows p o);
      value =
          λ p o w left nest.
          ap (λ v. join v (h (whole w p (C.meaning old p) g left nest))) (first.value p (second.narrows p o) w left nest)
          ∙ ap (λ k. join x (h (whole w p k g left nest))) (sym (first.stays p (second.narrows p o)))
          ∙ ap (join x) (second.value p o w left nest);
      stays = λ p o. second.stays p o ∙ first.stays p (second.narrows p o);
      notes = second.notes ∙ ap (option_map (looked_all b)) first.notes ∙ sym (looked-append-of a b (stacked_notes g (C.notes old)));
      made = second.made ∙ first.made;
      loan = second.loan ∙ first.loan;
    }
