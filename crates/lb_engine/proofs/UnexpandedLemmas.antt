-- What is read of the feed without expansion.
use Rattle.std.proofs.Common.{◌≡◌, List, ap, subst, sym, true}
use Rattle.std.specs.Prelude.{Bool, Some, Result, Ok, Err, IfOk, IfErr}
use Rattle.std.specs.Option.{option_map}
use Rattle.lb_base.specs.declared.fault.Stop.{Stop}
use Rattle.lb_base.specs.declared.fault.Stop.TheVariants.{Memory, Fault, At}
use Rattle.lb_base.specs.declared.token.Tok.{Tok}
use Rattle.lb_values.specs.declared.cell.Cell.{Cell}
use Rattle.lb_model_grammar.specs.declared.given.Given.{Given}
use Rattle.lb_model_grammar.specs.Scans.{Meant}
use Rattle.lb_model.specs.declared.cells.Cells.{Ghosts}
use Rattle.lb_model.specs.declared.place.Got.{Got}
use Rattle.lb_model.specs.Configs.{Config, Taking, looks_by, looks_of_plain, plain, taken_by}
use Rattle.lb_model.specs.Readings.{Outcome, Took, failed, looks_taken, noting, taken, whole as took_whole}
use Rattle.lb_model.specs.Readings.Outcome.{Failed, Whole as AWhole}
use Rattle.lb_model.specs.Settings.{Setting, noted_all}
use Rattle.lb_model.specs.Stacked.{Standing, looked_all}
use Rattle.lb_model.specs.Stops.{MayStopAt}
use Rattle.lb_model_nest.specs.Wholes.{Executed, Whole, executed}
use Rattle.lb_model_engine.specs.Reads.{got_to, outcome_to, reading_by, taking}
use Rattle.lb_expand.specs.Views.{config}
use Rattle.lb_expand.specs.declared.desk.Desk.{Desk}
use Rattle.lb_expand.proofs.PassLemmas.{looked_from}
use Rattle.lb_nest.specs.Views.{HasRight}
use Rattle.lb_nest.specs.declared.nest.Nest.{Nest}
use Rattle.lb_engine.specs.Leads.{Holds, Leads, Passes}
use Rattle.lb_engine.specs.Reads.{behind_reading}
use Rattle.lb_engine.specs.Unexpanded.{settled}
use Rattle.lb_engine.specs.Views.{IsReady}
use Rattle.lb_engine.specs.declared.engine.Engine.{Engine}
use Rattle.lb_engine.specs.declared.reading.Reading.{Reading}
use Rattle.lb_engine.specs.declared.reading.Reading.TheVariants as reading
use Rattle.lb_engine.proofs.ModesOfReadings.{taken-stays, taken_by-stays}
use Rattle.lb_engine.proofs.ReadingLemmas.{fed-passes}

-- ---- At a desk

-- what every call over cells and a desk keeps that only takes tokens
pub record Keeping {S : Type 0} (C : Ghosts S) (new : S) (desk_new : Desk) (old : S) (desk_old : Desk) : Type 0 where
  pub narrows : (p : Setting) → C.agrees new p → C.agrees old p
  pub stands : (p : Setting) → C.agrees new p → Standing desk_old.groups (C.meaning old p) → Standing desk_new.groups (C.meaning new p)
  pub groups : desk_new.groups ≡ desk_old.groups
  pub made : C.made new ≡ C.made old
  pub loan : C.loan new ≡ C.loan old

-- what is read there, or the fault
pub record Read {S X : Type 0} (C : Ghosts S) (took : Config → Took X) (looks : Config → List Cell) (read : Result X Stop) (new : S) (desk_new : Desk) (old : S) (desk_old : Desk) : Type 0 where
  pub keeping : Keeping C new desk_new old desk_old
  pub ok : IfOk read (λ x. (p : Setting) → C.agrees new p → noting took looks (config p.world (C.meaning old p) desk_old) (C.notes old) ≡ record { took = took_whole x (config p.world (C.meaning new p) desk_new); notes = C.notes new })
  pub fault : IfErr read (λ e. MayStopAt e (λ k. (p : Setting) → C.agrees new p → noting took looks (config p.world (C.meaning old p) desk_old) (C.notes old) ≡ record { took = failed k (config p.world (C.meaning new p) desk_new); notes = C.notes new }))

-- ---- At the desk of an engine

holds-on : {S : Type 0} (C : Ghosts S) {new : S} {desk : Desk} {old : S} {em eo : Engine} → IsReady em eo → Keeping C new desk old em.desk → Holds C old eo → Holds C new (record em { desk = desk })
holds-on C {new} {desk} {old} {em} {eo} ready keeping holds =
    λ p h.
    let k = holds p (keeping.narrows p h) in
    record {
      standing = keeping.stands p h (subst (λ g. Standing g (C.meaning old p)) (sym ready.groups) k.standing);
      fonts = subst (HasRight p.world) (sym (ap (λ (n : Nest). n.shelf) ready.nest)) k.fonts;
    }

outcome-passes : {S X : Type 0} (C : Ghosts S) (passes : Bool) (m : List Given → Meant X) (row : X → Whole → Executed) (o : Outcome X) {new : S} {desk : Desk} {old : S} {em eo : Engine}
    → IsReady em eo → Keeping C new desk old em.desk
    → ((p : Setting) → C.agrees new p → noting (taken (taken_by passes) m) (looks_taken (taken_by passes) (looks_by passes) m) (config p.world (C.meaning old p) em.desk) (C.notes old)
    ≡ record { took = record { outcome = o; next = config p.world (C.meaning new p) desk }; notes = C.notes new })
    → Passes C (reading_by (taken_by passes) (looks_by passes) m row) (outcome_to o row) new (record em { desk = desk }) old eo
outcome-passes C passes m row o {new} {desk} {old} {em} {eo} ready keeping read =
    fed-passes C (λ c. (taken (taken_by passes) m c).outcome) (λ c. (taken (taken_by passes) m c).next)
    (λ c. option_map (looked_all (looks_taken (taken_by passes) (looks_by passes) m c))) (λ x. outcome_to x row) o (taken-stays passes m) ready
    (record {
      worth = λ p h. ap (λ n. n.took.outcome) (read p h);
      leaves = λ p h. ap (λ n. n.took.next) (read p h);
      notes =
          λ p h.
          looked_from desk.groups em.desk.groups (looks_taken (taken_by passes) (looks_by passes) m (config p.world (C.meaning old p) em.desk)) (C.notes new) (C.notes old) keeping.groups
          (ap (λ n. n.notes) (read p h));
    })

-- what a row reads there
pub reading-leads : {S E X : Type 0} (C : Ghosts S) (passes : Bool) (m : List Given → Meant X) (row : X → Whole → Executed) (read : Result X Stop) (result : Result (Reading X) E) {new : S} {desk : Desk} {old : S} {em eo : Engine}
    → IsReady em eo → Holds C old eo → Read C (taken (taken_by passes) m) (looks_taken (taken_by passes) (looks_by passes) m) read new desk old em.desk
    → IfOk result (λ going. settled read ≡ Some going)
    → Leads C (reading_by (taken_by passes) (looks_by passes) m row) (behind_reading row) result new (record em { desk = desk }) old eo
reading-leads C passes m row read (Err e) ready holds r is =
    record { narrows = r.keeping.narrows; passes = tt; keeps = tt; made = r.keeping.made; loan = r.keeping.loan }
reading-leads C passes m row (Ok x) (Ok (reading.Of y)) {new} {desk} {old} {em} {eo} ready holds r is =
    record {
      narrows = r.keeping.narrows;
      passes = subst (λ z. Passes C (reading_by (taken_by passes) (looks_by passes) m row) (row z) new (record em { desk = desk }) old eo) (cc) (outcome-passes C passes m row (AWhole x) ready r.keeping r.ok);
      keeps = holds-on C ready r.keeping holds;
      made = r.keeping.made;
      loan = r.keeping.loan;
    }
reading-leads C passes m row (Ok x) (Ok (reading.Stops went)) ready holds r is = cc
reading-leads C passes m row (Err Memory) (Ok going) ready holds r is = cc
reading-leads C passes m row (Err (At fault)) (Ok going) ready holds r is = absurd r.fault
reading-leads C passes m row (Err (Fault k)) (Ok (reading.Of y)) ready holds r is = cc
reading-leads C passes m row (Err (Fault k)) (Ok (reading.Stops went)) {new} {desk} {old} {em} {eo} ready holds r is =
    record {
      narrows = r.keeping.narrows;
      passes = subst (λ z. Passes C (reading_by (taken_by passes) (looks_by passes) m row) (executed z) new (record em { desk = desk }) old eo) (cc) (outcome-passes C passes m row (Failed k) ready r.keeping r.fault);
      keeps = holds-on C ready r.keeping holds;
      made = r.keeping.made;
      loan = r.keeping.loan;
    }

-- ---- One token

-- what a token comes to
pub taking-passes : {S : Type 0} (C : Ghosts S) (row : Tok → Whole → Executed) (got : Got) {new : S} {desk : Desk} {old : S} {em eo : Engine}
    → IsReady em eo → Keeping C new desk old em.desk
    → ((p : Setting) → C.agrees new p → plain (config p.world (C.meaning old p) em.desk) ≡ record { got = got; next = config p.world (C.meaning new p) desk })
    → ((p : Setting) → C.agrees new p → C.notes new ≡ option_map (noted_all (looks_of_plain (config p.world (C.meaning old p) em.desk))) (C.notes old))
    → Passes C (taking row) (got_to got row) new (record em { desk = desk }) old eo
taking-passes C row got {new} {desk} {old} {em} {eo} ready keeping took notes =
    fed-passes C (λ c. (plain c).got) (λ c. (plain c).next) (λ c. option_map (looked_all (looks_of_plain c))) (λ t. got_to t row) got (taken_by-stays true) ready
    (record {
      worth = λ p h. ap (λ (t : Taking). t.got) (took p h);
      leaves = λ p h. ap (λ (t : Taking). t.next) (took p h);
      notes =
          λ p h.
          looked_from desk.groups em.desk.groups (looks_of_plain (config p.world (C.meaning old p) em.desk)) (C.notes new) (C.notes old) keeping.groups (sym (notes p h));
    })

pub taking-leads : {S E X : Type 0} (C : Ghosts S) (row : Tok → Whole → Executed) (rest : X → Whole → Executed) (got : Got) (x : X) {new : S} {desk : Desk} {old : S} {em eo : Engine}
    → IsReady em eo → Holds C old eo → Keeping C new desk old em.desk
    → ((p : Setting) → C.agrees new p → plain (config p.world (C.meaning old p) em.desk) ≡ record { got = got; next = config p.world (C.meaning new p) desk })
    → ((p : Setting) → C.agrees new p → C.notes new ≡ option_map (noted_all (looks_of_plain (config p.world (C.meaning old p) em.desk))) (C.notes old))
    → got_to got row ≡ rest x
    → Leads {E = E} C (taking row) rest (Ok x) new (record em { desk = desk }) old eo
taking-leads C row rest got x {new} {desk} {old} {em} {eo} ready holds keeping took notes is =
    record {
      narrows = keeping.narrows;
      passes = subst (λ z. Passes C (taking row) z new (record em { desk = desk }) old eo) is (taking-passes C row got ready keeping took notes);
      keeps = holds-on C ready keeping holds;
      made = keeping.made;
      loan = keeping.loan;
    }
