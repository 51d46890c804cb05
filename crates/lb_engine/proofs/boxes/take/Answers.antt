use Rattle.lb_base.specs.declared.node.Boxed.{Boxed}
use Rattle.lb_engine.proofs.JoinLemmas.{read-failed}
use Rattle.lb_engine.proofs.LeadsLemmas.{leads-read}
use Rattle.lb_model_nest.specs.Boxes.{placed}
use Rattle.lb_model_nest.specs.Wholes.{Executed, Whole, and_then, change, executed}
use Rattle.lb_model_nest.specs.declared.nest.BoxContext.{BoxContext}
use Rattle.lb_model_nest.specs.declared.turn.Went.TheVariants.{On}
use Rattle.lb_values.specs.declared.reach.Reach.TheVariants.{Local}
use Rattle.std.specs.Prelude.{Option, ℕ}
use Rattle.lb_values.specs.declared.cell.Cell.TheVariants as cell
use Rattle.lb_values.specs.declared.value.Value.TheVariants as value
use Rattle.lb_engine.proofs.boxes.take.Goals as goal

-- the register is void, and what it held goes to its place
abbrev to : ℕ → BoxContext → Option Boxed → Whole → Executed
to n context box v = and_then (change Local (cell.Boxed n) value.Absent v) (placed context box)

pub take_held-requires : goal.take_held-requires
take_held-requires g c = record { holds = (c.in_ok-box_held.ensures.leads (λ x. executed On)).keeps }

pub returns : goal.returns
returns g c =
    let row = to c.args.number c.args.context in
    record { goes = leads-read row c.in_ok-box_held.box_held c.take_held.result (c.in_ok-box_held.ensures.leads row) c.take_held.ensures.goes }

pub returns-in_err-box_held : goal.returns-in_err-box_held
returns-in_err-box_held g c = record { goes = read-failed c.from_residual.result c.from_residual.ensures.0 (c.in_err-box_held.ensures.leads (to c.args.number c.args.context)) }
