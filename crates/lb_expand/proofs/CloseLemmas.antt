-- Readings that close.
use Rattle.std.proofs.Common.{◌≡◌, ◌∙◌, ◌+◌, Bool, true, false, List, ap, length, nat_lt, refl, subst, sym}
use Rattle.std.specs.Prelude.{Result, Ok, Err, if◌then◌else◌}
use Rattle.lb_base.specs.declared.fault.Kind.TheVariants.{DepthLimit}
use Rattle.lb_base.specs.declared.token.Tok.{Tok}
use Rattle.lb_values.specs.declared.cell.Cell.{Cell}
use Rattle.lb_values.specs.declared.value.Value.{Value}
use Rattle.lb_model.specs.declared.cells.Cells.{Ghosts}
use Rattle.lb_model.specs.Configs.{Config, put_all}
use Rattle.lb_model.specs.Quantities.{Internal}
use Rattle.lb_model.specs.Settings.{Setting}
use Rattle.lb_model.specs.Sources.{pending}
use Rattle.lb_model.specs.Stacked.{stacked_notes}
use Rattle.lb_model.specs.Told.{Tells, Told}
use Rattle.lb_model_expansion.specs.Steps.{Performed, Step, and_then, performed, put, stopped}
use Rattle.lb_model_expansion.specs.declared.expansion.Went.{Went}
use Rattle.lb_model_expansion.specs.declared.expansion.Went.TheVariants.{On}
use Rattle.lb_model_expansion.specs.Expansion.{internal_given}
use Rattle.lb_quantities.specs.Finds.{internal_of}
use Rattle.lb_expand.specs.Closings.{Closes, IfHands, Turns, handed_on}
use Rattle.lb_expand.specs.Performs.{Passes, Performs}
use Rattle.lb_expand.specs.Views.{config}
use Rattle.lb_expand.specs.declared.closing.Closed.{Closed}
use Rattle.lb_expand.specs.declared.closing.Closed.TheVariants as closed
use Rattle.lb_expand.specs.declared.desk.Desk.{Desk}
use Rattle.lb_expand.proofs.PassLemmas.{and-passes, passes-then, performs-after}

-- a step that hands nothing on
pub closes_went : {S E : Type 0} (C : Ghosts S) (act : Config → Performed) (went : Went) {new : S} {desk_new : Desk} {old : S} {desk_old : Desk}
    → Performs {E = E} C act (Ok went) new desk_new old desk_old → Closes {E = E} C (λ more. act) (Ok (closed.Went went)) new desk_new old desk_old
closes_went C act went p = record { narrows = p.narrows; passes = λ more. p.passes; keeps = tt; made = p.made; loan = p.loan }

-- the readings of a desk are those of another where those of the one between are
keeps-after : {S : Type 0} (C : Ghosts S) (closed : Closed) (new m : S) (desk_new desk_m desk_old : Desk) → ((p : Setting) → C.agrees new p → C.agrees m p)
    → ((p : Setting) → C.agrees m p → desk_m.readings ≡ desk_old.readings) → IfHands closed ((p : Setting) → C.agrees new p → desk_new.readings ≡ desk_m.readings)
    → IfHands closed ((p : Setting) → C.agrees new p → desk_new.readings ≡ desk_old.readings)
keeps-after C (closed.Went went) new m desk_new desk_m desk_old narrows first second = tt
keeps-after C (closed.Hands found) new m desk_new desk_m desk_old narrows first second = λ p h. second p h ∙ first p (narrows p h)

-- more is done before
pub closes-after : {S E : Type 0} {C : Ghosts S} {act mid : (Internal → Config → Performed) → Config → Performed} (result : Result Closed E) {new : S} {desk_new : Desk} {m : S} {desk_m : Desk} {old : S} {desk_old : Desk}
    → ((p : Setting) → C.agrees m p → C.agrees old p) → ((more : Internal → Config → Performed) → Passes C (act more) (mid more) m desk_m old desk_old)
    → ((p : Setting) → C.agrees m p → desk_m.readings ≡ desk_old.readings) → C.made m ≡ C.made old → C.loan m ≡ C.loan old
    → Closes C mid result new desk_new m desk_m → Closes C act result new desk_new old desk_old
closes-after {S} {E} {C} {act} {mid} (Ok c) {new} {desk_new} {m} {desk_m} {old} {desk_old} narrows first keeps made loan second =
    record {
      narrows = λ p h. narrows p (second.narrows p h);
      passes = λ more. passes-then second.narrows (first more) (second.passes more);
      keeps = keeps-after C c new m desk_new desk_m desk_old second.narrows keeps second.keeps;
      made = second.made ∙ made;
      loan = second.loan ∙ loan;
    }
closes-after (Err e) narrows first keeps made loan second =
    record { narrows = λ p h. narrows p (second.narrows p h); passes = tt; keeps = tt; made = second.made ∙ made; loan = second.loan ∙ loan }

-- what closes by one, where it is another
pub closes-as : {S E X : Type 0} {C : Ghosts S} (act : X → (Internal → Config → Performed) → Config → Performed) {x y : X} (result : Result Closed E) {new : S} {desk_new : Desk} {old : S} {desk_old : Desk}
    → x ≡ y → Closes C (act y) result new desk_new old desk_old → Closes C (act x) result new desk_new old desk_old
closes-as {S} {E} {X} {C} act result {new} {desk_new} {old} {desk_old} e p = subst (λ z. Closes C (act z) result new desk_new old desk_old) (sym e) p

-- one step, which leaves the readings, and then a reading closes
pub and-closes : {S E : Type 0} {C : Ghosts S} (act : Config → Performed) (more : (Internal → Config → Performed) → Config → Performed) (result : Result Closed E) {new : S} {desk_new : Desk} {m : S} {desk_m : Desk} {old : S} {desk_old : Desk}
    → Performs {E = E} C act (Ok On) m desk_m old desk_old → ((p : Setting) → C.agrees m p → desk_m.readings ≡ desk_old.readings) → Closes C more result new desk_new m desk_m
    → Closes C (λ k c. and_then (act c) (more k)) result new desk_new old desk_old
and-closes {S} {E} {C} act more (Ok c) {new} {desk_new} {m} {desk_m} {old} {desk_old} first keeps second =
    record {
      narrows = λ p h. first.narrows p (second.narrows p h);
      passes = λ k. and-passes act (more k) (handed_on c k) second.narrows first.passes (second.passes k);
      keeps = keeps-after C c new m desk_new desk_m desk_old second.narrows keeps second.keeps;
      made = second.made ∙ first.made;
      loan = second.loan ∙ first.loan;
    }
and-closes act more (Err e) first keeps second =
    record { narrows = λ p h. first.narrows p (second.narrows p h); passes = tt; keeps = tt; made = second.made ∙ first.made; loan = second.loan ∙ first.loan }

room-keeps : (full : Bool) (toks : List Tok) (went : Went) (c : Config) → (if full then stopped DepthLimit c else performed went (put_all toks c)).done.next.readings ≡ c.readings
room-keeps true toks went c = refl
room-keeps false toks went c = refl

-- tokens that are put before the rest leave the readings
pub put-keeps : {S E : Type 0} {C : Ghosts S} (toks : List Tok) {new : S} {desk_new : Desk} {old : S} {desk_old : Desk}
    → Performs {E = E} C (put toks) (Ok On) new desk_new old desk_old → (p : Setting) → C.agrees new p → desk_new.readings ≡ desk_old.readings
put-keeps {S} {E} {C} toks {new} {desk_new} {old} {desk_old} first p h =
    let c = config p.world (C.meaning old p) desk_old in
    sym (ap (λ (s : Step). s.next.readings) (first.passes.done p h)) ∙ room-keeps (nat_lt 1000000 (length toks + pending c.source)) toks On c

-- a cell that was asked, as cells that only told
pub told-of : {S X E : Type 0} {C : Ghosts S} {cell : Cell} {f : Value → X} {result : Result X E} {new old : S} → Tells C cell f result new old → Told C new old
told-of t = record { narrows = t.narrows; stays = t.stays; made = t.made; loan = t.loan }

-- ---- What is handed on goes to the readings that are open

closes-turns-of : {S : Type 0} {C : Ghosts S} (act : (Internal → Config → Performed) → Config → Performed) (closed : Closed) {new : S} {desk_new : Desk} {old : S} {desk_old : Desk}
    → ((more : Internal → Config → Performed) → Passes C (act more) (handed_on closed more) new desk_new old desk_old)
    → IfHands closed ((p : Setting) → C.agrees new p → desk_new.readings ≡ desk_old.readings)
    → Passes C (λ c. act (internal_given c.readings) c) (λ c. handed_on closed (internal_given c.readings) c) new desk_new old desk_old
closes-turns-of act (closed.Went went) {new} {desk_new} {old} {desk_old} passes keeps =
    let by = passes (internal_given desk_old.readings) in record { done = by.done; notes = by.notes; standing = by.standing }
closes-turns-of {S} {C} act (closed.Hands found) {new} {desk_new} {old} {desk_old} passes keeps =
    let by = passes (internal_given desk_old.readings) in
    record {
      done = λ p h. by.done p h ∙ ap (λ r. (internal_given r (internal_of found) (config p.world (C.meaning new p) desk_new)).done) (sym (keeps p h));
      notes =
          λ p h.
          by.notes p h
          ∙ ap (λ r. (internal_given r (internal_of found) (config p.world (C.meaning new p) desk_new)).noted (stacked_notes desk_new.groups (C.notes new))) (sym (keeps p h));
      standing = by.standing;
    }

pub closes-turns : {S E : Type 0} {C : Ghosts S} (act : (Internal → Config → Performed) → Config → Performed) (result : Result Closed E) {new : S} {desk_new : Desk} {old : S} {desk_old : Desk}
    → Closes C act result new desk_new old desk_old → Turns C (λ c. act (internal_given c.readings) c) result new desk_new old desk_old
closes-turns act (Ok c) p = record { narrows = p.narrows; passes = closes-turns-of act c p.passes p.keeps; made = p.made; loan = p.loan }
closes-turns act (Err e) p = record { narrows = p.narrows; passes = tt; made = p.made; loan = p.loan }

-- a reading closes, and what it hands on is given to the others
pub hands-performs : {S E : Type 0} {C : Ghosts S} (act : (Internal → Config → Performed) → Config → Performed) (closed : Closed) (result : Result Went E) {new : S} {desk_new : Desk} {m : S} {desk_m : Desk} {old : S} {desk_old : Desk}
    → Closes {E = E} C act (Ok closed) m desk_m old desk_old → Performs C (λ c. handed_on closed (internal_given c.readings) c) result new desk_new m desk_m
    → Performs C (λ c. act (internal_given c.readings) c) result new desk_new old desk_old
hands-performs act closed result first second = performs-after result first.narrows (closes-turns-of act closed first.passes first.keeps) first.made first.loan second

-- more is done before
pub turns-after : {S E : Type 0} {C : Ghosts S} {act mid : Config → Performed} (result : Result Closed E) {new : S} {desk_new : Desk} {m : S} {desk_m : Desk} {old : S} {desk_old : Desk}
    → ((p : Setting) → C.agrees m p → C.agrees old p) → Passes C act mid m desk_m old desk_old → C.made m ≡ C.made old → C.loan m ≡ C.loan old
    → Turns C mid result new desk_new m desk_m → Turns C act result new desk_new old desk_old
turns-after (Ok c) narrows first made loan second =
    record { narrows = λ p h. narrows p (second.narrows p h); passes = passes-then second.narrows first second.passes; made = second.made ∙ made; loan = second.loan ∙ loan }
turns-after (Err e) narrows first made loan second =
    record { narrows = λ p h. narrows p (second.narrows p h); passes = tt; made = second.made ∙ made; loan = second.loan ∙ loan }
