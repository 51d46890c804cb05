-- Rows and readings one behind another: where memory was wanted, where nothing is done, and where what is done is told by another value.
use Rattle.std.proofs.Common.{◌≡◌, refl, subst}
use Rattle.std.specs.Prelude.{Option, Some, None, IfOk, IfSome, Result, Ok, Err, IsErr}
use Rattle.lb_model.specs.declared.cells.Cells.{Ghosts}
use Rattle.lb_model_nest.specs.Wholes.{Executed, Whole}
use Rattle.lb_engine.specs.Leads.{Holds, Leads}
use Rattle.lb_engine.specs.declared.engine.Engine.{Engine}

-- what was done before may be anything
pub read-failed : {S E F X Y : Type 0} {C : Ghosts S} {act done : Whole → Executed} {behind : X → Whole → Executed} {rest : Y → Whole → Executed} {first : Result X E} (result : Result Y F) {new : S} {en : Engine} {old : S} {eo : Engine}
    → IsErr result → Leads C done behind first new en old eo → Leads C act rest result new en old eo
read-failed (Ok y) h l = absurd (cc)
read-failed (Err f) h l = record { narrows = l.narrows; passes = tt; keeps = tt; made = l.made; loan = l.loan }

-- what is done by one value, where it is another
pub leads-same : {S E X Z : Type 0} {C : Ghosts S} (act : Z → Whole → Executed) {rest : X → Whole → Executed} {y z : Z} {result : Result X E} {new : S} {en : Engine} {old : S} {eo : Engine}
    → y ≡ z → Leads C (act y) rest result new en old eo → Leads C (act z) rest result new en old eo
leads-same {S} {E} {X} {Z} {C} act {rest} {y} {z} {result} {new} {en} {old} {eo} e l = subst (λ x. Leads C (act x) rest result new en old eo) e l

-- nothing is done
pub leads-done : {S E X : Type 0} (C : Ghosts S) (rest : X → Whole → Executed) (x : X) {s : S} {e : Engine} → Holds C s e → Leads {E = E} C (rest x) rest (Ok x) s e s e
leads-done C rest x holds = record { narrows = λ p h. h; passes = record { done = λ p h. refl; notes = λ p h. refl }; keeps = holds; made = refl; loan = refl }

-- a fact of what there is
pub some-holds : {X : Type 0} (P : X → Type 0) (o : Option X) → ((x : X) → o ≡ Some x → P x) → IfSome o P
some-holds P (Some x) h = h x refl
some-holds P None h = tt

-- nothing was answered
pub never-ok : {X E : Type 0} (P : X → Type 0) (result : Result X E) → IsErr result → IfOk result P
never-ok P (Ok x) h = absurd (cc)
never-ok P (Err e) h = tt
