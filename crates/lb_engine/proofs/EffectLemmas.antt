-- Effects on cells, as rows go on behind them.
use Rattle.std.proofs.Common.{◌≡◌, ◌∙◌, ap, subst, sym}
use Rattle.std.specs.Prelude.{ℤ, Some, Result, Ok, Err, IfOk}
use Rattle.std.specs.Option.{option_map}
use Rattle.lb_base.specs.declared.fault.Kind.{Kind}
use Rattle.lb_base.specs.declared.fault.Stop.{Stop}
use Rattle.lb_base.specs.declared.fault.Stop.TheVariants.{Memory, Fault, At}
use Rattle.lb_model.specs.declared.cells.Cells.{Ghosts}
use Rattle.lb_model.specs.declared.world.World.{World}
use Rattle.lb_model.specs.Settings.{Setting, State}
use Rattle.lb_model.specs.Stacked.{stacked_notes}
use Rattle.lb_model_counters.specs.Effects.{Effect, assigned_by, looked_by}
use Rattle.lb_counters.specs.Does.{Does, DoesIn, IsAssignedBy, IsNotedBy, or_stop}
use Rattle.lb_counters.proofs.InGroups.{does_in}
use Rattle.lb_model_nest.specs.declared.turn.Went.TheVariants.{Stopped}
use Rattle.lb_model_nest.specs.Wholes.{Executed, Whole, with_feed}
use Rattle.lb_model_engine.specs.Counting.{effect_to, effected}
use Rattle.lb_engine.specs.Effects.{settled}
use Rattle.lb_engine.specs.Leads.{Holds, Leads, Passes}
use Rattle.lb_engine.specs.Reads.{behind_reading}
use Rattle.lb_engine.specs.Views.{whole}
use Rattle.lb_engine.specs.declared.engine.Engine.{Engine}
use Rattle.lb_engine.specs.declared.reading.Reading.{Reading}
use Rattle.lb_engine.specs.declared.reading.Reading.TheVariants as reading

effect-passes : {S X : Type 0} (C : Ghosts S) (effect : World → State → Effect X) (row : X → Whole → Executed) (a : Result X Kind) {new old : S} {e : Engine}
    → ((p : Setting) → C.agrees new p → (effect p.world (C.meaning old p).now).answer ≡ a)
    → ((p : Setting) → C.agrees new p → IsAssignedBy e.desk.groups (effect p.world (C.meaning old p).now) (C.meaning new p) (C.meaning old p))
    → ((p : Setting) → C.agrees new p → IsNotedBy e.desk.groups (effect p.world (C.meaning old p).now) (C.notes new) (C.notes old))
    → Passes C (effected effect row) (effect_to a row) new e old e
effect-passes C effect row a {new} {old} {e} answer done notes =
    record {
      done =
          λ p h.
          let w : Whole = whole p (C.meaning old p) e in
          let f : Effect _ = effect p.world (C.meaning old p).now in
          ap (λ b. (effect_to b row (with_feed (record w.feed { cells = assigned_by f w.feed.cells }) w)).done) (answer p h)
          ∙ ap (λ s. (effect_to a row (with_feed (record w.feed { cells = s }) w)).done) (sym (done p h));
      notes =
          λ p h.
          let w : Whole = whole p (C.meaning old p) e in
          let f : Effect _ = effect p.world (C.meaning old p).now in
          let n = option_map (looked_by f) (stacked_notes e.desk.groups (C.notes old)) in
          ap (λ b. (effect_to b row (with_feed (record w.feed { cells = assigned_by f w.feed.cells }) w)).noted n) (answer p h)
          ∙ ap (λ s. (effect_to a row (with_feed (record w.feed { cells = s }) w)).noted n) (sym (done p h))
          ∙ ap (λ m. (effect_to a row (whole p (C.meaning new p) e)).noted m) (sym (notes p h));
    }

keeps-on : {S X : Type 0} (C : Ghosts S) (effect : World → State → Effect X) (answer : Result X Stop) {new old : S} (e : Engine)
    → Holds C old e → DoesIn C e.desk.groups effect answer new old → Holds C new e
keeps-on C effect answer e holds d = λ p h. let k = holds p (d.narrows p h) in record { standing = d.standing p h k.standing; fonts = k.fonts }

effect-in : {S E X : Type 0} (C : Ghosts S) (effect : World → State → Effect X) (row : X → Whole → Executed) (answer : Result X Stop) (result : Result (Reading X) E) {new old : S} {e : Engine}
    → Holds C old e → DoesIn C e.desk.groups effect answer new old → IfOk result (λ going. settled answer ≡ Some going)
    → Leads C (effected effect row) (behind_reading row) result new e old e
effect-in C effect row answer (Err x) holds d is = record { narrows = d.narrows; passes = tt; keeps = tt; made = d.made; loan = d.loan }
effect-in C effect row (Ok x) (Ok (reading.Of y)) {new} {old} {e} holds d is =
    record {
      narrows = d.narrows;
      passes = let same : x ≡ y = cc in subst (λ z. Passes C (effected effect row) (row z) new e old e) same (effect-passes C effect row (Ok x) d.answer d.done d.notes);
      keeps = keeps-on C effect (Ok x) e holds d;
      made = d.made;
      loan = d.loan;
    }
effect-in C effect row (Ok x) (Ok (reading.Stops went)) holds d is = cc
effect-in C effect row (Err Memory) (Ok going) holds d is = cc
effect-in C effect row (Err (At fault)) (Ok going) holds d is = absurd d.done
effect-in C effect row (Err (Fault kind)) (Ok (reading.Of y)) holds d is = cc
effect-in C effect row (Err (Fault kind)) (Ok (reading.Stops went)) {new} {old} {e} holds d is =
    record {
      narrows = d.narrows;
      passes =
          let same : reading.Stops (Stopped kind) ≡ reading.Stops went = cc in
          subst (λ z. Passes C (effected effect row) (behind_reading row z) new e old e) same (effect-passes C effect row (Err kind) d.answer d.done d.notes);
      keeps = keeps-on C effect (Err (Fault kind)) e holds d;
      made = d.made;
      loan = d.loan;
    }

-- a command that does what an effect says, and how the row goes on by its answer
pub effect_leads : {S E X : Type 0} (C : Ghosts S) (effect : World → State → Effect X) (row : X → Whole → Executed) (answer : Result X Stop) (result : Result (Reading X) E) {new old : S} {e : Engine}
    → Holds C old e → Does C effect answer new old → IfOk result (λ going. settled answer ≡ Some going)
    → Leads C (effected effect row) (behind_reading row) result new e old e
effect_leads C effect row answer result {new} {old} {e} holds d is =
    effect-in C effect row answer result holds (does_in C e.desk.groups effect answer new old d) is

-- one that has no fault
pub answer_leads : {S E X : Type 0} (C : Ghosts S) (effect : World → State → Effect X) (row : X → Whole → Executed) (result : Result X E) {new old : S} {e : Engine}
    → Holds C old e → Does C effect (or_stop result) new old → Leads C (effected effect row) row result new e old e
answer_leads C effect row (Err x) holds d = record { narrows = d.narrows; passes = tt; keeps = tt; made = d.made; loan = d.loan }
answer_leads C effect row (Ok x) {new} {old} {e} holds d =
    let i : DoesIn C e.desk.groups effect (Ok x) new old = does_in C e.desk.groups effect (Ok x) new old d in
    record {
      narrows = i.narrows;
      passes = effect-passes C effect row (Ok x) i.answer i.done i.notes;
      keeps = keeps-on C effect (Ok x) e holds i;
      made = i.made;
      loan = i.loan;
    }

-- the same of a number that is handed on
pub effect_leads_at : {S E X : Type 0} (C : Ghosts S) (effect : ℤ → World → State → Effect X) (row : X → Whole → Executed) (answer : Result X Stop) (result : Result (Reading X) E) {m n : ℤ} {new old : S} {e : Engine}
    → m ≡ n → Holds C old e → Does C (effect m) answer new old → IfOk result (λ going. settled answer ≡ Some going)
    → Leads C (effected (effect n) row) (behind_reading row) result new e old e
effect_leads_at C effect row answer result {m} {n} {new} {old} {e} same holds d is =
    subst (λ k. Leads C (effected (effect k) row) (behind_reading row) result new e old e) same (effect_leads C (effect m) row answer result holds d is)
