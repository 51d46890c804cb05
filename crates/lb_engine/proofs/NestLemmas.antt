-- Calls over the nest of an engine.
use Rattle.std.proofs.Common.{refl, ℕ, List}
use Rattle.std.specs.Prelude.{Result, Ok, Err}
use Rattle.lb_values.specs.declared.value.Value.{Value}
use Rattle.lb_values.specs.Kept.{Kept}
use Rattle.lb_model.specs.declared.cells.Cells.{Ghosts}
use Rattle.lb_model.specs.declared.group.Group.{Group}
use Rattle.lb_model.specs.Settings.{Setting}
use Rattle.lb_model_nest.specs.Wholes.{Executed, Whole}
use Rattle.lb_nest.specs.Leads.{Leads as NestLeads}
use Rattle.lb_nest.specs.Views.{anywhere, at_place}
use Rattle.lb_nest.specs.Works.{Works}
use Rattle.lb_nest.specs.declared.nest.Nest.{Nest}
use Rattle.lb_nest.proofs.WorksLemmas.{works-leads}
use Rattle.lb_engine.specs.Leads.{Holds, Leads}
use Rattle.lb_engine.specs.Views.{whole}
use Rattle.lb_engine.specs.declared.engine.Engine.{Engine}

-- an engine with these groups, steps and nest
abbrev pub with_nest : List Group → ℕ → Nest → Engine → Engine
with_nest groups left nest e = record e { desk = record e.desk { groups = groups; left = left }; nest = nest }

-- the rest of its configuration: what was added to the journal before the nest adds more
abbrev rest_of : Setting → Kept Value → Engine → Whole
rest_of p k e = let w : Whole = whole p k e in record w { feed = record w.feed { appends = e.desk.appends.items } }

pub nest_leads : {S E X : Type 0} {C : Ghosts S} {act : Whole → Executed} {rest : X → Whole → Executed} (result : Result X E) {new : S} {groups : List Group} {left : ℕ} {nest : Nest} {old : S} {e : Engine}
    → NestLeads C anywhere act rest result new groups left nest old e.desk.groups e.desk.left e.nest
    → Leads C act rest result new (with_nest groups left nest e) old e
nest_leads {S} {E} {X} {C} (Ok x) {new} {groups} {left} {nest} {old} {e} l =
    record {
      narrows = l.narrows;
      passes = record { done = λ p h. l.passes.done (rest_of p (C.meaning old p) e) p tt h; notes = λ p h. l.passes.notes (rest_of p (C.meaning old p) e) p tt h };
      keeps = l.keeps;
      made = l.made;
      loan = l.loan;
    }
nest_leads (Err x) l = record { narrows = l.narrows; passes = tt; keeps = tt; made = l.made; loan = l.loan }

pub nest_leads_at : {S E X : Type 0} {C : Ghosts S} {act : Whole → Executed} {rest : X → Whole → Executed} (result : Result X E) {new : S} {groups : List Group} {left : ℕ} {nest : Nest} {old : S} {e : Engine}
    → NestLeads C (at_place e.desk.place) act rest result new groups left nest old e.desk.groups e.desk.left e.nest
    → Leads C act rest result new (with_nest groups left nest e) old e
nest_leads_at {S} {E} {X} {C} (Ok x) {new} {groups} {left} {nest} {old} {e} l =
    record {
      narrows = l.narrows;
      passes = record { done = λ p h. l.passes.done (rest_of p (C.meaning old p) e) p refl h; notes = λ p h. l.passes.notes (rest_of p (C.meaning old p) e) p refl h };
      keeps = l.keeps;
      made = l.made;
      loan = l.loan;
    }
nest_leads_at (Err x) l = record { narrows = l.narrows; passes = tt; keeps = tt; made = l.made; loan = l.loan }

-- a call over the nest alone
pub nest_works : {S E X : Type 0} (C : Ghosts S) {act : Whole → Executed} {rest : X → Whole → Executed} (result : Result X E) {s : S} {left : ℕ} {nest : Nest} {e : Engine}
    → Holds C s e → Works act rest result left nest e.desk.left e.nest → Leads C act rest result s (with_nest e.desk.groups left nest e) s e
nest_works C result holds works = nest_leads result (works-leads C result holds works)
