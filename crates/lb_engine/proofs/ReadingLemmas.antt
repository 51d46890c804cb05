-- What is read of the feed.
use Rattle.std.proofs.Common.{◌≡◌, ◌∙◌, ◌++◌, [], ap, subst, sym}
use Rattle.std.specs.Prelude.{Option, Result, Ok, Err}
use Rattle.std.specs.Option.{option_map}
use Rattle.std.proofs.lemmas.List.{append-nil}
use Rattle.lb_base.specs.declared.fault.Fault.{Fault as AFault}
use Rattle.lb_base.specs.declared.fault.Kind.{Kind}
use Rattle.lb_base.specs.declared.fault.Stop.{Stop}
use Rattle.lb_base.specs.declared.fault.Stop.TheVariants.{Fault, At}
use Rattle.lb_base.specs.declared.token.Tok.{Tok}
use Rattle.lb_values.specs.declared.meaning.Meaning.{Meaning}
use Rattle.lb_values.specs.declared.value.Value.{Value}
use Rattle.lb_values.specs.Kept.{Kept}
use Rattle.lb_model.specs.declared.cells.Cells.{Ghosts}
use Rattle.lb_model.specs.Configs.{Config, looks_of_meaning}
use Rattle.lb_model.specs.Meanings.{token_meaning}
use Rattle.lb_model.specs.Settings.{Setting, noted_all}
use Rattle.lb_model.specs.Stacked.{Standing, StackedNotes, looked_all, stacked_notes}
use Rattle.lb_model.specs.Told.{Told}
use Rattle.lb_model_expansion.specs.Steps.{Performed, Step, performed}
use Rattle.lb_model_expansion.specs.declared.expansion.Went.{Went}
use Rattle.lb_model_expansion.specs.declared.expansion.Went.TheVariants.{Stopped, StoppedAt}
use Rattle.lb_expand.specs.Turns.{ended_with}
use Rattle.lb_model_nest.specs.Wholes.{Executed, Whole, behind, mode_of, with_feed}
use Rattle.lb_model_engine.specs.Reads.{meaning_to}
use Rattle.lb_expand.specs.Performs.{Passes as Performs-Passes, Performs}
use Rattle.lb_expand.specs.Views.{config}
use Rattle.lb_expand.specs.declared.desk.Desk.{Desk}
use Rattle.lb_nest.specs.Views.{HasRight}
use Rattle.lb_nest.proofs.LeadsLemmas.{notes-looked-all}
use Rattle.lb_nest.specs.declared.nest.Nest.{Nest}
use Rattle.lb_engine.proofs.LeadsLemmas.{passes-then}
use Rattle.lb_engine.specs.Leads.{Holds, Leads, Passes}
use Rattle.lb_engine.specs.Views.{IsReady, whole}
use Rattle.lb_engine.specs.declared.engine.Engine.{Engine}

-- ---- The desk of an engine

-- the configuration of another desk in the place of the feed
pub fed-whole : (p : Setting) (k l : Kept Value) (e : Engine) (desk : Desk) → e.nest.entries ≡ [] → desk.mode ≡ mode_of e.nest.level.kind
    → with_feed (config p.world k desk) (whole p l e) ≡ whole p k (record e { desk = desk })
fed-whole p k l e desk none mode =
    let appends : desk.appends.items ≡ desk.appends.items ++ e.nest.entries = sym (append-nil desk.appends.items) ∙ ap (λ l. desk.appends.items ++ l) (sym none) in
    λ i. with_feed (record (config p.world k desk) { mode = mode i; appends = appends i }) (whole p l e)

-- what the feed is asked for comes to a value and a configuration, and is noted
abbrev pub fed-by : {V : Type 0} → (Config → V) → (Config → Config) → (Config → Option StackedNotes → Option StackedNotes) → (V → Whole → Executed) → Whole → Executed
fed-by value next note row w = behind (note w.feed) (row (value w.feed) (with_feed (next w.feed) w))

pub record Asked {S V : Type 0} (C : Ghosts S) (value : Config → V) (next : Config → Config) (note : Config → Option StackedNotes → Option StackedNotes) (v : V) (new : S) (desk_new : Desk) (old : S) (desk_old : Desk) : Type 0 where
  pub worth : (p : Setting) → C.agrees new p → value (config p.world (C.meaning old p) desk_old) ≡ v
  pub leaves : (p : Setting) → C.agrees new p → next (config p.world (C.meaning old p) desk_old) ≡ config p.world (C.meaning new p) desk_new
  pub notes : (p : Setting) → C.agrees new p → note (config p.world (C.meaning old p) desk_old) (stacked_notes desk_old.groups (C.notes old)) ≡ stacked_notes desk_new.groups (C.notes new)

pub fed-passes : {S V : Type 0} (C : Ghosts S) (value : Config → V) (next : Config → Config) (note : Config → Option StackedNotes → Option StackedNotes) (row : V → Whole → Executed) (v : V) {new : S} {desk : Desk} {old : S} {em eo : Engine}
    → ((c : Config) → (next c).mode ≡ c.mode) → IsReady em eo → Asked C value next note v new desk old em.desk
    → Passes C (fed-by value next note row) (row v) new (record em { desk = desk }) old eo
fed-passes C value next note row v {new} {desk} {old} {em} {eo} stays ready asked =
    let fed : (p : Setting) → (whole p (C.meaning old p) eo).feed ≡ config p.world (C.meaning old p) em.desk = λ p. ap (λ (w : Whole). w.feed) (sym (ready.same p (C.meaning old p))) ∙ ready.fed p (C.meaning old p) in
    let mode : (p : Setting) → C.agrees new p → desk.mode ≡ mode_of em.nest.level.kind = λ p h. sym (ap (λ (c : Config). c.mode) (asked.leaves p h)) ∙ stays (config p.world (C.meaning old p) em.desk) ∙ ready.mode in
    let behind_it : (p : Setting) → C.agrees new p → with_feed (next (whole p (C.meaning old p) eo).feed) (whole p (C.meaning old p) eo) ≡ whole p (C.meaning new p) (record em { desk = desk }) =
    λ p h.
    ap (λ c. with_feed (next c) (whole p (C.meaning old p) eo)) (fed p)
    ∙ ap (λ c. with_feed c (whole p (C.meaning old p) eo)) (asked.leaves p h)
    ∙ ap (with_feed (config p.world (C.meaning new p) desk)) (sym (ready.same p (C.meaning old p)))
    ∙ fed-whole p (C.meaning new p) (C.meaning old p) em desk ready.none (mode p h)
    in
    let worth : (p : Setting) → C.agrees new p → value (whole p (C.meaning old p) eo).feed ≡ v = λ p h. ap value (fed p) ∙ asked.worth p h in
    let noted : (p : Setting) → C.agrees new p → note (whole p (C.meaning old p) eo).feed (stacked_notes eo.desk.groups (C.notes old)) ≡ stacked_notes desk.groups (C.notes new) =
    λ p h.
    ap (λ c. note c (stacked_notes eo.desk.groups (C.notes old))) (fed p)
    ∙ ap (λ g. note (config p.world (C.meaning old p) em.desk) (stacked_notes g (C.notes old))) (sym ready.groups)
    ∙ asked.notes p h
    in
    record {
      done =
          λ p h.
          ap (λ x. (row x (with_feed (next (whole p (C.meaning old p) eo).feed) (whole p (C.meaning old p) eo))).done) (worth p h)
          ∙ ap (λ w. (row v w).done) (behind_it p h);
      notes =
          λ p h.
          ap (λ x. (row x (with_feed (next (whole p (C.meaning old p) eo).feed) (whole p (C.meaning old p) eo))).noted (note (whole p (C.meaning old p) eo).feed (stacked_notes eo.desk.groups (C.notes old)))) (worth p h)
          ∙ ap (λ w. (row v w).noted (note (whole p (C.meaning old p) eo).feed (stacked_notes eo.desk.groups (C.notes old)))) (behind_it p h)
          ∙ ap (λ m. (row v (whole p (C.meaning new p) (record em { desk = desk }))).noted m) (noted p h);
    }

-- ---- What turns of expansion come to

abbrev pub KeepsMode : (Config → Performed) → Type 0
KeepsMode act = (c : Config) → (act c).done.next.mode ≡ c.mode

abbrev pub asked-by : (Config → Performed) → (Went → Whole → Executed) → Whole → Executed
asked-by ask row = fed-by (λ c. (ask c).done.went) (λ c. (ask c).done.next) (λ c. (ask c).noted) row

pub asked-passes : {S : Type 0} (C : Ghosts S) (ask : Config → Performed) (row : Went → Whole → Executed) (went : Went) {new : S} {desk : Desk} {old : S} {em eo : Engine}
    → KeepsMode ask → IsReady em eo → Performs-Passes C ask (performed went) new desk old em.desk
    → Passes C (asked-by ask row) (row went) new (record em { desk = desk }) old eo
asked-passes C ask row went {new} {desk} {old} {em} {eo} stays ready first =
    fed-passes C (λ c. (ask c).done.went) (λ c. (ask c).done.next) (λ c. (ask c).noted) row went stays ready
    (record {
      worth = λ p h. ap (λ (s : Step). s.went) (first.done p h);
      leaves = λ p h. ap (λ (s : Step). s.next) (first.done p h);
      notes = first.notes;
    })

-- and what holds of cells and engine holds behind it
pub asked-holds : {S : Type 0} (C : Ghosts S) (ask : Config → Performed) (went : Went) {new : S} {desk : Desk} {old : S} {em eo : Engine}
    → ((p : Setting) → C.agrees new p → C.agrees old p) → IsReady em eo → Performs-Passes C ask (performed went) new desk old em.desk → Holds C old eo
    → Holds C new (record em { desk = desk })
asked-holds C ask went {new} {desk} {old} {em} {eo} narrows ready first holds =
    λ p h.
    let k = holds p (narrows p h) in
    record {
      standing = first.standing p h (subst (λ g. Standing g (C.meaning old p)) (sym ready.groups) k.standing);
      fonts = subst (HasRight p.world) (sym (ap (λ (n : Nest). n.shelf) ready.nest)) k.fonts;
    }

-- a call of the feeder, over the cells and the desk of an engine that is ready
pub asked-leads : {S E F X : Type 0} (C : Ghosts S) (ask : Config → Performed) (row : Went → Whole → Executed) (rest : X → Whole → Executed) (went : Went) (x : X) {new cells_new : S} {desk : Desk} {cells_old old : S} {desk_old : Desk} {em eo : Engine} {r : Result Went E}
    → KeepsMode ask → IsReady em eo → Holds C old eo → row went ≡ rest x → cells_old ≡ old → desk_old ≡ em.desk → cells_new ≡ new → r ≡ Ok went → Performs C ask r cells_new desk cells_old desk_old
    → Leads {E = F} C (asked-by ask row) rest (Ok x) new (record em { desk = desk }) old eo
asked-leads {S} {E} {F} {X} C ask row rest went x {new} {cells_new} {desk} {cells_old} {old} {desk_old} {em} {eo} {r} stays ready holds same cells desk_is cells_is is performs =
    let now : Performs {E = E} C ask (Ok went) new desk old em.desk =
    subst (λ s. Performs {E = E} C ask (Ok went) s desk old em.desk) cells_is
    (subst (λ d. Performs {E = E} C ask (Ok went) cells_new desk old d) desk_is
    (subst (λ s. Performs {E = E} C ask (Ok went) cells_new desk s desk_old) cells (subst (λ q. Performs C ask q cells_new desk cells_old desk_old) is performs)))
    in
    record {
      narrows = now.narrows;
      passes = subst (λ r. Passes C (asked-by ask row) r new (record em { desk = desk }) old eo) same (asked-passes C ask row went stays ready now.passes);
      keeps = asked-holds C ask went now.narrows ready now.passes holds;
      made = now.made;
      loan = now.loan;
    }

-- a fault of the feeder
pub ended-fault : {X : Type 0} (f : X → Went) {s : Stop} {kind : Kind} → s ≡ Fault kind → ended_with f (Err s) ≡ Ok (Stopped kind)
ended-fault f is = ap (λ s. ended_with f (Err s)) is

pub ended-at : {X : Type 0} (f : X → Went) {s : Stop} {fault : AFault} → s ≡ At fault → ended_with f (Err s) ≡ Ok (StoppedAt fault)
ended-at f is = ap (λ s. ended_with f (Err s)) is

-- ---- Meanings

-- a token's meaning is told
pub meaning-passes : {S : Type 0} (C : Ghosts S) (row : Tok → Option Meaning → Whole → Executed) (tok : Tok) (m : Option Meaning) {new old : S} {e : Engine}
    → Told C new old → ((p : Setting) → C.agrees new p → token_meaning p.world (C.meaning old p).now tok ≡ m) → C.notes new ≡ option_map (noted_all (looks_of_meaning tok)) (C.notes old)
    → Passes C (meaning_to row tok) (row tok m) new e old e
meaning-passes C row tok m {new} {old} {e} told value notes =
    record {
      done =
          λ p h.
          ap (λ v. (row tok v (whole p (C.meaning old p) e)).done) (value p h)
          ∙ ap (λ k. (row tok m (whole p k e)).done) (sym (told.stays p h));
      notes =
          λ p h.
          let a = option_map (looked_all (looks_of_meaning tok)) (stacked_notes e.desk.groups (C.notes old)) in
          ap (λ v. (row tok v (whole p (C.meaning old p) e)).noted a) (value p h)
          ∙ ap (λ k. (row tok m (whole p k e)).noted a) (sym (told.stays p h))
          ∙ ap (λ b. (row tok m (whole p (C.meaning new p) e)).noted b) (sym (notes-looked-all e.desk.groups (looks_of_meaning tok) (C.notes old)))
          ∙ ap (λ o. (row tok m (whole p (C.meaning new p) e)).noted (stacked_notes e.desk.groups o)) (sym notes);
    }

-- behind what was read
pub leads-meaning : {S E F Y X : Type 0} (C : Ghosts S) {act : Whole → Executed} {rest : X → Whole → Executed} (row : Tok → Option Meaning → Whole → Executed) (tok : Tok) (m : Option Meaning) {y : Y} {x : X} {new mid old : S} {e eo : Engine}
    → Told C new mid → ((p : Setting) → C.agrees new p → token_meaning p.world (C.meaning mid p).now tok ≡ m) → C.notes new ≡ option_map (noted_all (looks_of_meaning tok)) (C.notes mid)
    → row tok m ≡ rest x → Leads {E = E} {X = Y} C act (λ z. meaning_to row tok) (Ok y) mid e old eo → Leads {E = F} C act rest (Ok x) new e old eo
leads-meaning {S} {E} {F} {Y} {X} C {act} {rest} row tok m {y} {x} {new} {mid} {old} {e} {eo} told value notes same first =
    record {
      narrows = λ p h. first.narrows p (told.narrows p h);
      passes = subst (λ r. Passes C act r new e old eo) same (passes-then told.narrows first.passes (meaning-passes C row tok m told value notes));
      keeps = λ p h. let k = first.keeps p (told.narrows p h) in record { standing = subst (Standing e.desk.groups) (sym (told.stays p h)) k.standing; fonts = k.fonts };
      made = told.made ∙ first.made;
      loan = told.loan ∙ first.loan;
    }
