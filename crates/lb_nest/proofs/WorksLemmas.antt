-- Calls over a nest alone.
use Rattle.std.proofs.Common.{◌≡◌, ◌∙◌, ℕ, List, ap, refl, subst, sym}
use Rattle.std.specs.Prelude.{Result, Ok, Err}
use Rattle.lb_values.specs.declared.value.Value.{Value}
use Rattle.lb_values.specs.Kept.{Kept}
use Rattle.lb_model.specs.declared.cells.Cells.{Ghosts}
use Rattle.lb_model.specs.declared.group.Group.{Group}
use Rattle.lb_model.specs.Settings.{Setting}
use Rattle.lb_model.specs.Stacked.{stacked_notes}
use Rattle.lb_model_nest.specs.declared.turn.Went.{Went}
use Rattle.lb_model_nest.specs.declared.turn.Went.TheVariants.{On}
use Rattle.lb_model_nest.specs.Wholes.{Executed, Whole, and_then, executed}
use Rattle.lb_nest.specs.Leads.{Leads}
use Rattle.lb_nest.specs.Views.{HasRight, Keeps, whole}
use Rattle.lb_nest.specs.Works.{Works}
use Rattle.lb_nest.specs.declared.nest.Nest.{Nest}
use Rattle.lb_nest.proofs.LeadsLemmas.{at-most, ended-as}

pub keeps-shelf : {p : Setting} {k : Kept Value} {g : List Group} {new old : Nest} → new.shelf ≡ old.shelf → Keeps p k g old → Keeps p k g new
keeps-shelf {p} {k} {g} {new} {old} e h = record { standing = h.standing; fonts = subst (HasRight p.world) (sym e) h.fonts }

pub works-leads : {S E X : Type 0} (C : Ghosts S) {of : Whole → Type 0} {act : Whole → Executed} {rest : X → Whole → Executed} (result : Result X E) {s : S} {g : List Group} {ln : ℕ} {nn : Nest} {lo : ℕ} {no : Nest}
    → ((p : Setting) → C.agrees s p → Keeps p (C.meaning s p) g no) → Works act rest result ln nn lo no → Leads C of act rest result s g ln nn s g lo no
works-leads {S} {E} {X} C {of} {act} {rest} (Ok x) {s} {g} {ln} {nn} {lo} {no} keeps t =
    record {
      narrows = λ p h. h;
      passes = record {
        done = λ w p o h. ap (λ (q : Executed). q.done) (t.works w p (C.meaning s p) g);
        notes = λ w p o h. ap (λ (q : Executed). q.noted (stacked_notes g (C.notes s))) (t.works w p (C.meaning s p) g);
      };
      keeps = λ p h. keeps-shelf t.shelf (keeps p h);
      left = t.left;
      made = refl;
      loan = refl;
    }
works-leads C (Err e) keeps t = record { narrows = λ p h. h; passes = tt; keeps = tt; left = t.left; made = refl; loan = refl }

pub works-then : {E X : Type 0} (act more : Whole → Executed) {rest : X → Whole → Executed} (result : Result X E) {went : Went} {ln : ℕ} {nn : Nest} {lm : ℕ} {nm : Nest} {lo : ℕ} {no : Nest}
    → went ≡ On → Works {E = E} act executed (Ok went) lm nm lo no → Works more rest result ln nn lm nm → Works (λ w. and_then (act w) more) rest result ln nn lo no
works-then act more (Ok x) {went} {ln} {nn} {lm} {nm} {lo} {no} is first second =
    record {
      works =
          λ w p k g.
          ap (λ e. and_then e more) (first.works w p k g)
          ∙ ap (λ way. and_then (executed way (whole w p k g lm nm)) more) is
          ∙ second.works w p k g;
      shelf = second.shelf ∙ first.shelf;
      left = at-most ln lm lo second.left first.left;
    }
works-then act more (Err e) {went} {ln} {nn} {lm} {nm} {lo} {no} is first second = record { works = tt; shelf = second.shelf ∙ first.shelf; left = at-most ln lm lo second.left first.left }

pub works-ended : {E : Type 0} (act more : Whole → Executed) (went : Went) {ln : ℕ} {nn : Nest} {lo : ℕ} {no : Nest}
    → (went ≡ On → ⊥) → Works {E = E} act executed (Ok went) ln nn lo no → Works {E = E} (λ w. and_then (act w) more) executed (Ok went) ln nn lo no
works-ended act more went {ln} {nn} ends first =
    record {
      works = λ w p k g. ap (λ e. and_then e more) (first.works w p k g) ∙ ended-as went (whole w p k g ln nn) more ends;
      shelf = first.shelf;
      left = first.left;
    }
