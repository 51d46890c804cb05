-- Readings and rows one behind another, by what was read.
use Rattle.std.proofs.Common.{◌≡◌, ◌∙◌, ap, subst, sym}
use Rattle.std.specs.Prelude.{Result, Ok, Err}
use Rattle.std.specs.Result.{IsErr}
use Rattle.lb_model.specs.declared.cells.Cells.{Ghosts}
use Rattle.lb_model_nest.specs.declared.turn.Went.{Went}
use Rattle.lb_model_nest.specs.Wholes.{Executed, Whole, and_then, executed}
use Rattle.lb_engine.specs.Leads.{Goes, Leads, Passes}
use Rattle.lb_engine.specs.declared.engine.Engine.{Engine}
use Rattle.lb_engine.proofs.LeadsLemmas.{and-passes, leads-read}

-- more is done with what was read
pub read-then : {S E F X Y : Type 0} {C : Ghosts S} {act : Whole → Executed} (behind : X → Whole → Executed) {rest : Y → Whole → Executed} {r x : X} (result : Result Y F) {new : S} {en : Engine} {m : S} {em : Engine} {old : S} {eo : Engine}
    → r ≡ x → Leads {E = E} C act behind (Ok r) m em old eo → Leads C (behind x) rest result new en m em → Leads C act rest result new en old eo
read-then {S} {E} {F} {X} {Y} {C} {act} behind {rest} {r} {x} result {new} {en} {m} {em} {old} {eo} is first second =
    leads-read {E = E} behind x result (subst (λ y. Leads {E = E} C act behind (Ok y) m em old eo) is first) second

-- nothing more is done
pub read-ends : {S E F X Y : Type 0} {C : Ghosts S} {act : Whole → Executed} (behind : X → Whole → Executed) (rest : Y → Whole → Executed) {r x : X} (y : Y) {new : S} {en : Engine} {old : S} {eo : Engine}
    → r ≡ x → behind x ≡ rest y → Leads {E = E} C act behind (Ok r) new en old eo → Leads {E = F} C act rest (Ok y) new en old eo
read-ends {S} {E} {F} {X} {Y} {C} {act} behind rest {r} {x} y {new} {en} {old} {eo} is same first =
    record {
      narrows = first.narrows;
      passes = subst (λ z. Passes C act z new en old eo) (ap behind is ∙ same) first.passes;
      keeps = first.keeps;
      made = first.made;
      loan = first.loan;
    }

-- a row, and more behind it where it goes on
pub row-ends : {S E F Y : Type 0} {C : Ghosts S} (act more : Whole → Executed) (rest : Y → Whole → Executed) (went : Went) (y : Y) {new : S} {en : Engine} {old : S} {eo : Engine}
    → ((w : Whole) → and_then (executed went w) more ≡ rest y w) → Goes {E = E} C act (Ok went) new en old eo → Leads {E = F} C (λ w. and_then (act w) more) rest (Ok y) new en old eo
row-ends {S} {E} {F} {Y} {C} act more rest went y {new} {en} {old} {eo} same first =
    record {
      narrows = first.narrows;
      passes = subst (λ z. Passes C (λ w. and_then (act w) more) z new en old eo) (λ i w. same w i) (and-passes act (executed went) more first.passes);
      keeps = first.keeps;
      made = first.made;
      loan = first.loan;
    }

-- memory was wanted
pub read-fails : {S E F X Y : Type 0} {C : Ghosts S} {act done : Whole → Executed} {behind : X → Whole → Executed} {rest : Y → Whole → Executed} {e : E} (result : Result Y F) {new : S} {en : Engine} {old : S} {eo : Engine}
    → IsErr result → Leads C act behind (Err e) new en old eo → Leads C done rest result new en old eo
read-fails (Ok y) is first = cc
read-fails (Err f) is first = record { narrows = first.narrows; passes = tt; keeps = tt; made = first.made; loan = first.loan }

-- cells that are these
pub leads-at : {S E X : Type 0} {C : Ghosts S} {act : Whole → Executed} {rest : X → Whole → Executed} {result : Result X E} {s t : S} {en : Engine} {old : S} {eo : Engine}
    → s ≡ t → Leads C act rest result t en old eo → Leads C act rest result s en old eo
leads-at {S} {E} {X} {C} {act} {rest} {result} {s} {t} {en} {old} {eo} is first = subst (λ x. Leads C act rest result x en old eo) (sym is) first

-- what is passed on is this
pub passes-of : {S X : Type 0} {C : Ghosts S} {act : Whole → Executed} (behind : X → Whole → Executed) {r x : X} (rest : Whole → Executed) {new : S} {en : Engine} {old : S} {eo : Engine}
    → r ≡ x → behind x ≡ rest → Passes C act (behind r) new en old eo → Passes C act rest new en old eo
passes-of {S} {X} {C} {act} behind {r} {x} rest {new} {en} {old} {eo} is same first = subst (λ z. Passes C act z new en old eo) (ap behind is ∙ same) first

-- what is done is done with this
pub act-is : {S E V Y : Type 0} {C : Ghosts S} (act : V → Whole → Executed) {rest : Y → Whole → Executed} (result : Result Y E) {x y : V} {new : S} {en : Engine} {old : S} {eo : Engine}
    → x ≡ y → Leads C (act x) rest result new en old eo → Leads C (act y) rest result new en old eo
act-is {S} {E} {V} {Y} {C} act {rest} result {x} {y} {new} {en} {old} {eo} is first = subst (λ z. Leads C (act z) rest result new en old eo) is first
