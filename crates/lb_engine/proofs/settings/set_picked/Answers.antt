use Rattle.std.proofs.Common.{◌≡◌, ◌∙◌, ℕ, ap, refl, true}
use Rattle.lb_values.specs.declared.reach.Reach.{Reach}
use Rattle.lb_model_engine.specs.Registers.{picked_row, variable_row}
use Rattle.lb_model_nest.specs.declared.turn.Went.TheVariants.{On}
use Rattle.lb_model_nest.specs.Wholes.{Executed, Whole, executed}
use Rattle.lb_engine.proofs.RowLemmas.{act-is, read-ends, read-fails, read-then}
use Rattle.lb_engine.specs.Reads.{behind_reading}
use Rattle.lb_engine.specs.Registers.{family_cell, is_variable}
use Rattle.lb_engine.specs.declared.settings.Family.{Family}
use Rattle.lb_engine.specs.declared.settings.Family.TheVariants as family
use Rattle.lb_engine.proofs.settings.set_picked.Goals as goal

-- the cell is set
abbrev to : Family → Reach → ℕ → Whole → Executed
to f reach n v = variable_row (family_cell f n) reach v

variable : (f : Family) (n : ℕ) → is_variable (family_cell f n) ≡ true
variable family.Count n = refl
variable family.Dimen n = refl
variable family.Skip n = refl
variable family.Toks n = refl
variable family.Category n = refl
variable family.LowerCase n = refl
variable family.UpperCase n = refl
variable family.SpaceFactor n = refl

pub set-requires : goal.set-requires
set-requires g c = record { variable = ap is_variable c.cell-picked.ensures ∙ variable c.args.family c.in-Of.number; holds = (c.in_ok-number.ensures.leads (λ n. executed On)).keeps }

pub returns-in-Of : goal.returns-in-Of
unfolding picked_row
returns-in-Of g c =
    let row = to c.args.family c.args.reach in
    record {
      goes = read-then (behind_reading row) c.set.result c.in-Of.is (c.in_ok-number.ensures.leads row) (act-is (λ x. variable_row x c.args.reach) c.set.result c.cell-picked.ensures c.set.ensures.goes);
    }

pub returns-in-Stops : goal.returns-in-Stops
unfolding picked_row
returns-in-Stops g c =
    let row = to c.args.family c.args.reach in
    record { goes = read-ends (behind_reading row) executed c.in-Stops.went c.in-Stops.is refl (c.in_ok-number.ensures.leads row) }

pub returns-in_err-number : goal.returns-in_err-number
returns-in_err-number g c = record { goes = read-fails c.from_residual.result c.from_residual.ensures.0 (c.in_err-number.ensures.leads (to c.args.family c.args.reach)) }
