-- Calls one after another: what is done and noted by all of them.
use Rattle.std.proofs.Common.{◌≡◌, ◌∙◌, ap, subst, sym}
use Rattle.std.specs.Prelude.{Result, Ok, Err}
use Rattle.lb_model.specs.declared.cells.Cells.{Ghosts}
use Rattle.lb_model.specs.Settings.{Setting}
use Rattle.lb_model.specs.Stacked.{stacked_notes}
use Rattle.lb_model_nest.specs.declared.turn.Went.{Went}
use Rattle.lb_model_nest.specs.declared.turn.Went.TheVariants.{On}
use Rattle.lb_model_nest.specs.Wholes.{Executed, Turn, Whole, and_then, executed}
use Rattle.lb_nest.proofs.LeadsLemmas.{done-as, ended-as, noted-as, noted-by, turn-as}
use Rattle.lb_engine.specs.Leads.{Goes, Leads, Passes}
use Rattle.lb_engine.specs.Views.{whole}
use Rattle.lb_engine.specs.declared.engine.Engine.{Engine}

-- ---- One behind another

pub passes-then : {S : Type 0} {C : Ghosts S} {act mid rest : Whole → Executed} {new : S} {en : Engine} {m : S} {em : Engine} {old : S} {eo : Engine}
    → ((p : Setting) → C.agrees new p → C.agrees m p) → Passes C act mid m em old eo → Passes C mid rest new en m em → Passes C act rest new en old eo
passes-then narrows first second =
    record {
      done = λ p h. first.done p (narrows p h) ∙ second.done p h;
      notes = λ p h. first.notes p (narrows p h) ∙ second.notes p h;
    }

pub leads-after : {S E X : Type 0} {C : Ghosts S} {act mid : Whole → Executed} {rest : X → Whole → Executed} (result : Result X E) {new : S} {en : Engine} {m : S} {em : Engine} {old : S} {eo : Engine}
    → ((p : Setting) → C.agrees m p → C.agrees old p) → Passes C act mid m em old eo → C.made m ≡ C.made old → C.loan m ≡ C.loan old
    → Leads C mid rest result new en m em → Leads C act rest result new en old eo
leads-after (Ok x) narrows first made loan second =
    record {
      narrows = λ p h. narrows p (second.narrows p h);
      passes = passes-then second.narrows first second.passes;
      keeps = second.keeps;
      made = second.made ∙ made;
      loan = second.loan ∙ loan;
    }
leads-after (Err e) narrows first made loan second =
    record { narrows = λ p h. narrows p (second.narrows p h); passes = tt; keeps = tt; made = second.made ∙ made; loan = second.loan ∙ loan }

-- what was read, and what is done with it
pub leads-read : {S E F X Y : Type 0} {C : Ghosts S} {act : Whole → Executed} (behind : X → Whole → Executed) {rest : Y → Whole → Executed} (x : X) (result : Result Y F) {new : S} {en : Engine} {m : S} {em : Engine} {old : S} {eo : Engine}
    → Leads {E = E} C act behind (Ok x) m em old eo → Leads C (behind x) rest result new en m em → Leads C act rest result new en old eo
leads-read behind x result first second = leads-after result first.narrows first.passes first.made first.loan second

-- where the engine alone is changed
pub passes-engine : {S : Type 0} (C : Ghosts S) {act mid : Whole → Executed} (s : S) {en eo : Engine}
    → en.desk.groups ≡ eo.desk.groups → ((p : Setting) → act (whole p (C.meaning s p) eo) ≡ mid (whole p (C.meaning s p) en)) → Passes C act mid s en s eo
passes-engine C {act} {mid} s {en} {eo} groups e =
    record {
      done = λ p h. ap (λ (q : Executed). q.done) (e p);
      notes =
          λ p h.
          ap (λ (q : Executed). q.noted (stacked_notes eo.desk.groups (C.notes s))) (e p)
          ∙ ap (λ g. (mid (whole p (C.meaning s p) en)).noted (stacked_notes g (C.notes s))) (sym groups);
    }

-- ---- One row behind another

-- what the first comes to, with the second behind it
pub and-passes : {S : Type 0} {C : Ghosts S} (act mid more : Whole → Executed) {new : S} {en : Engine} {old : S} {eo : Engine}
    → Passes C act mid new en old eo → Passes C (λ w. and_then (act w) more) (λ w. and_then (mid w) more) new en old eo
and-passes {S} {C} act mid more {new} {en} {old} {eo} first =
    record {
      done =
          λ p h.
          let a : Executed = act (whole p (C.meaning old p) eo) in
          let b : Executed = mid (whole p (C.meaning new p) en) in
          done-as a.done.went a (more a.done.next)
          ∙ ap (λ (t : Turn). turn-as t.went t (more t.next).done) (first.done p h)
          ∙ sym (done-as b.done.went b (more b.done.next));
      notes =
          λ p h.
          let a : Executed = act (whole p (C.meaning old p) eo) in
          let b : Executed = mid (whole p (C.meaning new p) en) in
          let n = stacked_notes eo.desk.groups (C.notes old) in
          let m = stacked_notes en.desk.groups (C.notes new) in
          noted-as a.done.went a (more a.done.next) n
          ∙ ap (λ (t : Turn). noted-by t.went (a.noted n) (more t.next)) (first.done p h)
          ∙ ap (λ k. noted-by b.done.went k (more b.done.next)) (first.notes p h)
          ∙ sym (noted-as b.done.went b (more b.done.next) m);
    }

-- a row that goes on, and then more
pub leads-then : {S E X : Type 0} {C : Ghosts S} (act more : Whole → Executed) {rest : X → Whole → Executed} (result : Result X E) {went : Went} {new : S} {en : Engine} {m : S} {em : Engine} {old : S} {eo : Engine}
    → went ≡ On → Goes {E = E} C act (Ok went) m em old eo → Leads C more rest result new en m em → Leads C (λ w. and_then (act w) more) rest result new en old eo
leads-then {S} {E} {X} {C} act more result {went} {new} {en} {m} {em} {old} {eo} is first second =
    let both = and-passes act (executed On) more (subst (λ y. Passes C act (executed y) m em old eo) is first.passes) in
    leads-after result first.narrows (record { done = both.done; notes = both.notes }) first.made first.loan second

-- a row that does not
pub leads-ended : {S E : Type 0} {C : Ghosts S} (act more : Whole → Executed) (went : Went) {new : S} {en : Engine} {old : S} {eo : Engine}
    → (went ≡ On → ⊥) → Goes {E = E} C act (Ok went) new en old eo → Goes {E = E} C (λ w. and_then (act w) more) (Ok went) new en old eo
leads-ended {S} {E} {C} act more went {new} {en} {old} {eo} ends first =
    let both = and-passes act (executed went) more first.passes in
    record {
      narrows = first.narrows;
      passes = record {
        done = λ p h. both.done p h ∙ ap (λ (q : Executed). q.done) (ended-as went (whole p (C.meaning new p) en) more ends);
        notes = λ p h. both.notes p h ∙ ap (λ (q : Executed). q.noted (stacked_notes en.desk.groups (C.notes new))) (ended-as went (whole p (C.meaning new p) en) more ends);
      };
      keeps = first.keeps;
      made = first.made;
      loan = first.loan;
    }
