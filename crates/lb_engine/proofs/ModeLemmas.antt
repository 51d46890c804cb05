-- Rows that look at the mode of the innermost list.
use Rattle.std.proofs.Common.{◌≡◌, ap, refl}
use Rattle.std.specs.Prelude.{Bool, true, false, Result, Ok, if◌then◌else◌}
use Rattle.lb_base.specs.declared.fault.Kind.TheVariants.{WrongMode}
use Rattle.lb_model.specs.declared.cells.Cells.{Ghosts}
use Rattle.lb_model.specs.declared.place.Mode.{Mode}
use Rattle.lb_model_nest.specs.declared.turn.Went.{Went}
use Rattle.lb_model_nest.specs.declared.turn.Went.TheVariants.{Stopped}
use Rattle.lb_model_nest.specs.Wholes.{Executed, Whole, executed, mode_of, stop}
use Rattle.lb_engine.specs.Leads.{Goes, Holds, Leads}
use Rattle.lb_engine.specs.Views.{whole}
use Rattle.lb_engine.specs.declared.engine.Engine.{Engine}
use Rattle.lb_engine.proofs.JoinLemmas.{leads-done}
use Rattle.lb_engine.proofs.LeadsLemmas.{leads-after, passes-engine}

-- by what the mode of the innermost list is
pub mode-is : {S E X : Type 0} {C : Ghosts S} (test : Mode → Bool) (there elsewhere : Whole → Executed) {rest : X → Whole → Executed} (result : Result X E) {new : S} {en : Engine} {old : S} {eo : Engine} (b : Bool)
    → test (mode_of eo.nest.level.kind) ≡ b → Leads C (λ w. if b then there w else elsewhere w) rest result new en old eo
    → Leads C (λ w. if test w.feed.mode then there w else elsewhere w) rest result new en old eo
mode-is {S} {E} {X} {C} test there elsewhere result {new} {en} {old} {eo} b is second =
    leads-after result (λ p h. h)
    (passes-engine C old refl (λ p. ap (λ (x : Bool). if x then there (whole p (C.meaning old p) eo) else elsewhere (whole p (C.meaning old p) eo)) is))
    refl refl second

-- a row that is not for this mode
pub mode-stops : {S E : Type 0} (C : Ghosts S) (test : Mode → Bool) (row : Whole → Executed) {s : S} {e : Engine}
    → test (mode_of e.nest.level.kind) ≡ true → Holds C s e → Goes {E = E} C (λ w. if test w.feed.mode then stop WrongMode w else row w) (Ok (Stopped WrongMode)) s e s e
mode-stops C test row {s} {e} is holds = mode-is test (stop WrongMode) row (Ok (Stopped WrongMode)) true is (leads-done C executed (Stopped WrongMode) holds)

-- one that is for another
pub mode-goes : {S E : Type 0} {C : Ghosts S} (test : Mode → Bool) (row : Whole → Executed) {rest : Went → Whole → Executed} (result : Result Went E) {new : S} {en : Engine} {old : S} {eo : Engine}
    → test (mode_of eo.nest.level.kind) ≡ false → Leads C row rest result new en old eo → Leads C (λ w. if test w.feed.mode then stop WrongMode w else row w) rest result new en old eo
mode-goes test row result is second = mode-is test (stop WrongMode) row result false is second

-- a row for this mode alone
pub mode-wanted : {S E : Type 0} {C : Ghosts S} (test : Mode → Bool) (row : Whole → Executed) {rest : Went → Whole → Executed} (result : Result Went E) {new : S} {en : Engine} {old : S} {eo : Engine}
    → test (mode_of eo.nest.level.kind) ≡ true → Leads C row rest result new en old eo → Leads C (λ w. if test w.feed.mode then row w else stop WrongMode w) rest result new en old eo
mode-wanted test row result is second = mode-is test row (stop WrongMode) result true is second

pub mode-lacks : {S E : Type 0} (C : Ghosts S) (test : Mode → Bool) (row : Whole → Executed) {s : S} {e : Engine}
    → test (mode_of e.nest.level.kind) ≡ false → Holds C s e → Goes {E = E} C (λ w. if test w.feed.mode then row w else stop WrongMode w) (Ok (Stopped WrongMode)) s e s e
mode-lacks C test row {s} {e} is holds = mode-is test row (stop WrongMode) (Ok (Stopped WrongMode)) false is (leads-done C executed (Stopped WrongMode) holds)
