-- Calls that fail for want of memory, and values that stand for others.
use Rattle.std.proofs.Common.{◌≡◌, ◌∙◌, ℕ, List, ap}
use Rattle.std.specs.Prelude.{Result, Ok, Err}
use Rattle.std.specs.Result.{IsErr}
use Rattle.lb_values.specs.declared.cell.Cell.{Cell}
use Rattle.lb_values.specs.declared.value.Value.{Value}
use Rattle.lb_values.specs.Kept.{Kept}
use Rattle.lb_model.specs.declared.cells.Cells.{Ghosts}
use Rattle.lb_model.specs.declared.group.Group.{Group}
use Rattle.lb_model.specs.Settings.{Setting}
use Rattle.lb_model.specs.Stacked.{stacked_notes}
use Rattle.lb_model_nest.specs.Wholes.{Executed, Whole, and_then}
use Rattle.lb_nest.specs.Leads.{Leads, Looks}
use Rattle.lb_nest.specs.Views.{whole}
use Rattle.lb_nest.specs.Works.{Works}
use Rattle.lb_nest.specs.declared.nest.Nest.{Nest}
use Rattle.lb_nest.proofs.LeadsLemmas.{and-passes, same-left}

pub works-failed : {E X : Type 0} {act : Whole → Executed} {rest : X → Whole → Executed} (result : Result X E) {l : ℕ} {nn no : Nest} → IsErr result → nn.shelf ≡ no.shelf → Works act rest result l nn l no
works-failed (Ok x) h e = absurd (cc)
works-failed (Err x) {l} h e = record { works = tt; shelf = e; left = same-left l }

pub leads-failed : {S E X F Y : Type 0} {C : Ghosts S} {of : Whole → Type 0} {act other : Whole → Executed} {rest : X → Whole → Executed} {next : Y → Whole → Executed} (result : Result X E) (e : F) {new : S} {gn : List Group} {ln : ℕ} {nn : Nest} {old : S} {go : List Group} {lo : ℕ} {no : Nest}
    → IsErr result → Leads C of other next (Err e) new gn ln nn old go lo no → (any : Nest) → Leads C of act rest result new gn ln nn old go lo any
leads-failed (Ok x) e h l any = absurd (cc)
leads-failed (Err x) e h l any = record { narrows = l.narrows; passes = tt; keeps = tt; left = l.left; made = l.made; loan = l.loan }

-- the same by another
pub works-behind : {E X : Type 0} {act mid : Whole → Executed} {rest : X → Whole → Executed} (result : Result X E) {ln : ℕ} {nn : Nest} {lo : ℕ} {no : Nest}
    → ((w : Whole) (p : Setting) (k : Kept Value) (g : List Group) → act (whole w p k g lo no) ≡ mid (whole w p k g lo no)) → Works mid rest result ln nn lo no → Works act rest result ln nn lo no
works-behind (Ok x) e t = record { works = λ w p k g. e w p k g ∙ t.works w p k g; shelf = t.shelf; left = t.left }
works-behind (Err x) e t = record { works = tt; shelf = t.shelf; left = t.left }

-- another value that stands for the same
pub leads-rest : {S E F X Y : Type 0} {C : Ghosts S} {of : Whole → Type 0} {act : Whole → Executed} {rest : X → Whole → Executed} (next : Y → Whole → Executed) {x : X} (y : Y) {new : S} {gn : List Group} {ln : ℕ} {nn : Nest} {old : S} {go : List Group} {lo : ℕ} {no : Nest}
    → ((w : Whole) → rest x w ≡ next y w) → Leads {E = E} C of act rest (Ok x) new gn ln nn old go lo no → Leads {E = F} C of act next (Ok y) new gn ln nn old go lo no
leads-rest {S} {E} {F} {X} {Y} {C} next y {new} {gn} {ln} {nn} e l =
    record {
      narrows = l.narrows;
      passes = record {
        done = λ w p o h. l.passes.done w p o h ∙ ap (λ (q : Executed). q.done) (e (whole w p (C.meaning new p) gn ln nn));
        notes = λ w p o h. l.passes.notes w p o h ∙ ap (λ (q : Executed). q.noted (stacked_notes gn (C.notes new))) (e (whole w p (C.meaning new p) gn ln nn));
      };
      keeps = l.keeps;
      left = l.left;
      made = l.made;
      loan = l.loan;
    }

-- with more behind it
pub leads-and : {S E F X Y : Type 0} {C : Ghosts S} {of : Whole → Type 0} (act : Whole → Executed) (rest : X → Whole → Executed) (more : Whole → Executed) (next : Y → Whole → Executed) {x : X} (y : Y) {new : S} {gn : List Group} {ln : ℕ} {nn : Nest} {old : S} {go : List Group} {lo : ℕ} {no : Nest}
    → ((w : Whole) → and_then (rest x w) more ≡ next y w) → Leads {E = E} C of act rest (Ok x) new gn ln nn old go lo no → Leads {E = F} C of (λ w. and_then (act w) more) next (Ok y) new gn ln nn old go lo no
leads-and {S} {E} {F} {X} {Y} {C} {of} act rest more next {x} y {new} {gn} {ln} {nn} {old} {go} {lo} {no} e l =
    let both = and-passes act (rest x) more l.passes in
    leads-rest {E = E} {act = λ w. and_then (act w) more} {rest = λ (z : X) w. and_then (rest z w) more} next {x = x} y e
    (record { narrows = l.narrows; passes = record { done = both.done; notes = both.notes }; keeps = l.keeps; left = l.left; made = l.made; loan = l.loan })

pub looks-value : {S E X : Type 0} {C : Ghosts S} {g : List Group} {f : Whole → X} {cells : List Cell} {x y : X} {new old : S} → x ≡ y → Looks {E = E} C g cells f (Ok x) new old → Looks {E = E} C g cells f (Ok y) new old
looks-value {S} {E} {X} {C} {g} {f} {cells} {x} {y} {new} {old} e l =
    record { narrows = l.narrows; value = λ p h w left nest. l.value p h w left nest ∙ e; stays = l.stays; notes = l.notes; made = l.made; loan = l.loan }
