-- Loops of rows: what is done so far, and what is left to do.
use Rattle.std.proofs.Common.{◌≡◌, ◌∙◌, ℕ, List, ap, refl, subst, sym}
use Rattle.std.specs.Prelude.{Result, Ok, Err, IfOk, IsErrAnd}
use Rattle.lb_base.specs.Answers.{Answers}
use Rattle.lb_base.specs.declared.fault.Kind.{Kind}
use Rattle.lb_base.specs.declared.fault.Stop.{Stop}
use Rattle.lb_base.specs.declared.fault.Stop.TheVariants.{At, Fault, Memory}
use Rattle.lb_values.specs.declared.value.Value.{Value}
use Rattle.lb_values.specs.Kept.{Kept}
use Rattle.lb_model.specs.declared.cells.Cells.{Ghosts}
use Rattle.lb_model.specs.declared.group.Group.{Group}
use Rattle.lb_model.specs.Settings.{Setting}
use Rattle.lb_model_nest.specs.declared.turn.Went.{Went}
use Rattle.lb_model_nest.specs.declared.turn.Went.TheVariants.{On, Stopped}
use Rattle.lb_model_nest.specs.Wholes.{Executed, Whole, and_then, executed}
use Rattle.lb_nest.specs.Leads.{Leads}
use Rattle.lb_nest.specs.Stops.{IsStopOf}
use Rattle.lb_nest.specs.Views.{Keeps, anywhere, whole}
use Rattle.lb_nest.specs.declared.nest.Nest.{Nest}
use Rattle.lb_nest.proofs.LeadsLemmas.{leads-after, leads-as, leads-ended, leads-nest, leads-then, same-left}
use Rattle.lb_nest.proofs.WorksLemmas.{keeps-shelf}

-- for any error that does not come
pub leads-ok : {S E F X : Type 0} {C : Ghosts S} {of : Whole → Type 0} {act : Whole → Executed} {rest : X → Whole → Executed} {x : X} {new : S} {gn : List Group} {ln : ℕ} {nn : Nest} {old : S} {go : List Group} {lo : ℕ} {no : Nest}
    → Leads {E = E} C of act rest (Ok x) new gn ln nn old go lo no → Leads {E = F} C of act rest (Ok x) new gn ln nn old go lo no
leads-ok l = record { narrows = l.narrows; passes = l.passes; keeps = l.keeps; left = l.left; made = l.made; loan = l.loan }

-- after an error nothing is said of what was to be done
pub leads-failed : {S E F X Y : Type 0} {C : Ghosts S} {of : Whole → Type 0} {act other : Whole → Executed} {rest : X → Whole → Executed} {more : Y → Whole → Executed} (P : F → Type 0) {e : E} (result : Result Y F) {new : S} {gn : List Group} {ln : ℕ} {nn : Nest} {old : S} {go : List Group} {lo : ℕ} {no : Nest}
    → IsErrAnd result P → Leads C of act rest (Err e) new gn ln nn old go lo no → Leads C of other more result new gn ln nn old go lo no
leads-failed P (Ok y) is l = absurd is
leads-failed P (Err f) is l = record { narrows = l.narrows; passes = tt; keeps = tt; left = l.left; made = l.made; loan = l.loan }

-- what is done by one, where it is another
pub leads-from : {S E X Y : Type 0} {C : Ghosts S} {of : Whole → Type 0} (act : Y → Whole → Executed) {rest : X → Whole → Executed} {x y : Y} (result : Result X E) {new : S} {gn : List Group} {ln : ℕ} {nn : Nest} {old : S} {go : List Group} {lo : ℕ} {no : Nest}
    → Leads C of (act y) rest result new gn ln nn old go lo no → x ≡ y → Leads C of (act x) rest result new gn ln nn old go lo no
leads-from act result l e = leads-as act result e l

-- a call stops with a fault
pub refused : {S E T : Type 0} {C : Ghosts S} (act : Result T Kind → Whole → Executed) (meant : Result T Kind) (stop : Stop) (result : Result Went E) {s : S} {g : List Group} {l : ℕ} {n : Nest}
    → ((kind : Kind) (w : Whole) → act (Err kind) w ≡ executed (Stopped kind) w) → Answers {T = T} meant (Err stop) → IfOk result (λ went. IsStopOf stop went)
    → ((p : Setting) → C.agrees s p → Keeps p (C.meaning s p) g n) → Leads C anywhere (act meant) executed result s g l n s g l n
refused act meant stop (Err e) {s} {g} {l} {n} stops is so keeps = record { narrows = λ p h. h; passes = tt; keeps = tt; left = same-left l; made = refl; loan = refl }
refused act meant (Fault kind) (Ok went) {s} {g} {l} {n} stops is so keeps =
    leads-nest executed went (λ w p k o. ap (λ m. act m (whole w p k g l n)) is ∙ stops kind (whole w p k g l n) ∙ ap (λ x. executed x (whole w p k g l n)) (sym so)) keeps
refused act meant Memory (Ok went) stops is so keeps = absurd so
refused act meant (At fault) (Ok went) stops is so keeps = absurd so

-- what the first comes to, the rest comes to from here
abbrev pub Led : {S : Type 0} → Ghosts S → (Whole → Executed) → (Whole → Executed) → S → List Group → ℕ → Nest → S → List Group → ℕ → Nest → Type 0
Led C act rest new groups_new left_new nest_new old groups_old left_old nest_old =
    Leads {E = Unit {0}} {X = Whole → Executed} C anywhere act (λ a. a) (Ok rest) new groups_new left_new nest_new old groups_old left_old nest_old

pub led-start : {S : Type 0} {C : Ghosts S} (act : Whole → Executed) {s : S} {g : List Group} {l : ℕ} {n : Nest} → ((p : Setting) → C.agrees s p → Keeps p (C.meaning s p) g n) → Led C act act s g l n s g l n
led-start act keeps = leads-nest (λ (a : Whole → Executed). a) act (λ w p k o. refl) keeps

pub led-as : {S : Type 0} {C : Ghosts S} {act : Whole → Executed} {x y : Whole → Executed} {new : S} {gn : List Group} {ln : ℕ} {nn : Nest} {old : S} {go : List Group} {lo : ℕ} {no : Nest}
    → x ≡ y → Led C act x new gn ln nn old go lo no → Led C act y new gn ln nn old go lo no
led-as {S} {C} {act} {x} {y} {new} {gn} {ln} {nn} {old} {go} {lo} {no} e so-far = subst (λ z. Led C act z new gn ln nn old go lo no) e so-far

-- the nest alone is changed
pub led-nest : {S : Type 0} {C : Ghosts S} {act mid : Whole → Executed} (rest : Whole → Executed) {m : S} {gm : List Group} {lm : ℕ} {nm nn : Nest} {old : S} {go : List Group} {lo : ℕ} {no : Nest}
    → nn.shelf ≡ nm.shelf → ((w : Whole) (p : Setting) (k : Kept Value) → mid (whole w p k gm lm nm) ≡ rest (whole w p k gm lm nn))
    → Led C act mid m gm lm nm old go lo no → Led C act rest m gm lm nn old go lo no
led-nest {S} {C} {act} {mid} rest {m} {gm} {lm} {nm} {nn} {old} {go} {lo} {no} shelf e so-far =
    leads-after (Ok rest) so-far.narrows so-far.passes so-far.left so-far.made so-far.loan
    (leads-nest (λ (a : Whole → Executed). a) rest (λ w p k o. e w p k) (λ p h. keeps-shelf {new = nn} {old = nm} shelf (so-far.keeps p h)))

-- a row goes on, and more is left
pub led-on : {S E : Type 0} {C : Ghosts S} {act : Whole → Executed} (row more : Whole → Executed) {went : Went} {new : S} {gn : List Group} {ln : ℕ} {nn : Nest} {m : S} {gm : List Group} {lm : ℕ} {nm : Nest} {old : S} {go : List Group} {lo : ℕ} {no : Nest}
    → went ≡ On → Led C act (λ w. and_then (row w) more) m gm lm nm old go lo no → Leads {E = E} C anywhere row executed (Ok went) new gn ln nn m gm lm nm
    → Led C act more new gn ln nn old go lo no
led-on {S} {E} {C} {act} row more {went} {new} {gn} {ln} {nn} {m} {gm} {lm} {nm} {old} {go} {lo} {no} is so-far goes =
    leads-after (Ok more) so-far.narrows so-far.passes so-far.left so-far.made so-far.loan
    (leads-then row more (Ok more) is (leads-ok goes) (leads-nest (λ (a : Whole → Executed). a) more (λ w p k o. refl) goes.keeps))

-- a row does not
pub led-ended : {S E F : Type 0} {C : Ghosts S} {act : Whole → Executed} (row more : Whole → Executed) (went : Went) {new : S} {gn : List Group} {ln : ℕ} {nn : Nest} {m : S} {gm : List Group} {lm : ℕ} {nm : Nest} {old : S} {go : List Group} {lo : ℕ} {no : Nest}
    → (went ≡ On → ⊥) → Led C act (λ w. and_then (row w) more) m gm lm nm old go lo no → Leads {E = E} C anywhere row executed (Ok went) new gn ln nn m gm lm nm
    → Leads {E = F} C anywhere act executed (Ok went) new gn ln nn old go lo no
led-ended {S} {E} {F} {C} {act} row more went {new} {gn} {ln} {nn} {m} {gm} {lm} {nm} {old} {go} {lo} {no} ends so-far goes =
    leads-after (Ok went) so-far.narrows so-far.passes so-far.left so-far.made so-far.loan
    (leads-ended row more went ends (leads-ok goes))

-- it ends here, so
pub led-done : {S F : Type 0} {C : Ghosts S} {act : Whole → Executed} (went : Went) {m : S} {gm : List Group} {lm : ℕ} {nm : Nest} {old : S} {go : List Group} {lo : ℕ} {no : Nest}
    → Led C act (executed went) m gm lm nm old go lo no → Leads {E = F} C anywhere act executed (Ok went) m gm lm nm old go lo no
led-done went so-far = record { narrows = so-far.narrows; passes = record { done = so-far.passes.done; notes = so-far.passes.notes }; keeps = so-far.keeps; left = so-far.left; made = so-far.made; loan = so-far.loan }
