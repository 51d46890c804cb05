-- Cells that are looked at, and memory that is wanted behind what was read.
use Rattle.std.proofs.Common.{◌≡◌, ◌∙◌, ◌∷◌, [], List, ap, refl, subst, sym}
use Rattle.std.specs.Prelude.{IfOk, Result, Ok, Err}
use Rattle.std.specs.Result.{IsErr}
use Rattle.std.specs.Option.{option_map}
use Rattle.lb_values.specs.declared.cell.Cell.{Cell}
use Rattle.lb_values.specs.declared.value.Value.{Value}
use Rattle.lb_groups.specs.Open.{TellsIn}
use Rattle.lb_model.specs.declared.cells.Cells.{Ghosts}
use Rattle.lb_model.specs.declared.group.Group.{Group}
use Rattle.lb_model.specs.Stacked.{Standing, looked, stacked_notes}
use Rattle.lb_model_nest.specs.Wholes.{Executed, Whole, looking, tells}
use Rattle.lb_engine.specs.Leads.{Holds, Leads}
use Rattle.lb_engine.specs.Views.{whole}
use Rattle.lb_engine.specs.declared.engine.Engine.{Engine}

-- memory was wanted behind what was read
pub read-drops : {S E F X Y : Type 0} {C : Ghosts S} {act done : Whole → Executed} {behind : X → Whole → Executed} {rest : Y → Whole → Executed} {x : X} (result : Result Y F) {new : S} {en : Engine} {old : S} {eo : Engine}
    → IsErr result → Leads {E = E} C act behind (Ok x) new en old eo → Leads C done rest result new en old eo
read-drops (Ok y) is first = cc
read-drops (Err f) is first = record { narrows = first.narrows; passes = tt; keeps = tt; made = first.made; loan = first.loan }

-- what holds of what was read
pub if-fails : {E X : Type 0} (P : X → Type 0) (result : Result X E) → IsErr result → IfOk result P
if-fails P (Ok x) is = cc
if-fails P (Err e) is = tt

-- what a cell tells
pub told-leads : {S E F X Y : Type 0} (C : Ghosts S) (cell : Cell) (f : Value → X) (row : X → Whole → Executed) (rest : Y → Whole → Executed) (v : X) (y : Y) {new old : S} {e : Engine}
    → Holds C old e → TellsIn {E = E} C e.desk.groups cell f (Ok v) new old → row v ≡ rest y
    → Leads {E = F} C (λ w. looking (cell ∷ []) (row (f (tells w cell)) w)) rest (Ok y) new e old e
told-leads C cell f row rest v y {new} {old} {e} holds t same =
    record {
      narrows = t.narrows;
      passes = record {
        done =
            λ p h.
            ap (λ x. (row x (whole p (C.meaning old p) e)).done) (t.value p h)
            ∙ ap (λ k. (row v (whole p k e)).done) (sym (t.stays p h))
            ∙ ap (λ act. (act (whole p (C.meaning new p) e)).done) same;
        notes =
            λ p h.
            let n = option_map (looked cell) (stacked_notes e.desk.groups (C.notes old)) in
            ap (λ x. (row x (whole p (C.meaning old p) e)).noted n) (t.value p h)
            ∙ ap (λ k. (row v (whole p k e)).noted n) (sym (t.stays p h))
            ∙ ap (λ m. (row v (whole p (C.meaning new p) e)).noted m) (sym t.notes)
            ∙ ap (λ act. (act (whole p (C.meaning new p) e)).noted (stacked_notes e.desk.groups (C.notes new))) same;
      };
      keeps =
          λ p h.
          let k = holds p (t.narrows p h) in
          record { standing = subst (λ m. Standing e.desk.groups m) (sym (t.stays p h)) k.standing; fonts = k.fonts };
      made = t.made;
      loan = t.loan;
    }

-- memory was wanted behind it
pub told-drops : {S E F X Y : Type 0} {C : Ghosts S} {groups : List Group} {cell : Cell} {f : Value → X} {read : Result X E} {act : Whole → Executed} {rest : Y → Whole → Executed} (result : Result Y F) {new old : S} {e : Engine}
    → IsErr result → TellsIn C groups cell f read new old → Leads C act rest result new e old e
told-drops (Ok y) is t = cc
told-drops (Err f) is t = record { narrows = t.narrows; passes = tt; keeps = tt; made = t.made; loan = t.loan }

-- what a cell tells is what a row goes on with
pub look-leads : {S E X : Type 0} (C : Ghosts S) (cell : Cell) (f : Value → X) (row : X → Whole → Executed) (result : Result X E) {new old : S} {e : Engine}
    → Holds C old e → TellsIn C e.desk.groups cell f result new old → Leads C (λ w. looking (cell ∷ []) (row (f (tells w cell)) w)) row result new e old e
look-leads {S} {E} {X} C cell f row (Ok v) holds t = told-leads C cell f row row v v holds t refl
look-leads {S} {E} {X} C cell f row (Err x) holds t = told-drops {Y = X} (Err x) refl t
