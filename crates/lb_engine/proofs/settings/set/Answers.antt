use Rattle.std.proofs.Common.{refl}
use Rattle.lb_base.specs.declared.fault.Kind.TheVariants.{BadCode}
use Rattle.lb_values.specs.declared.cell.Cell.{Cell}
use Rattle.lb_values.specs.declared.reach.Reach.{Reach}
use Rattle.lb_model.specs.Assignments.{registered}
use Rattle.lb_model_engine.specs.Registers.{value_of_kind, variable_row}
use Rattle.lb_model_nest.specs.declared.turn.Went.TheVariants.{On}
use Rattle.lb_model_nest.specs.Wholes.{Executed, Whole, change_or, executed}
use Rattle.lb_engine.proofs.RowLemmas.{read-ends, read-fails, read-then}
use Rattle.lb_engine.specs.Reads.{behind_reading}
use Rattle.lb_engine.proofs.settings.set.Goals as goal

-- the cell is set to what comes
abbrev to : Reach → Cell → Whole → Executed
to reach cell v = value_of_kind cell (λ x u. change_or BadCode reach cell (registered cell x) u) v

pub set_by_kind-requires : goal.set_by_kind-requires
set_by_kind-requires g c = record { variable = c.requires.variable; holds = (c.in_ok-equals.ensures.leads (executed On)).keeps }

pub returns-in-Of : goal.returns-in-Of
unfolding variable_row
returns-in-Of g c =
    let row = to c.args.reach c.args.cell.now in
    record { goes = read-then (behind_reading (λ u. row)) c.set_by_kind.result c.in-Of.is (c.in_ok-equals.ensures.leads row) c.set_by_kind.ensures.goes }

pub returns-in-Stops : goal.returns-in-Stops
unfolding variable_row
returns-in-Stops g c =
    let row = to c.args.reach c.args.cell.now in
    record { goes = read-ends (behind_reading (λ u. row)) executed c.in-Stops.went c.in-Stops.is refl (c.in_ok-equals.ensures.leads row) }

pub returns-in_err-equals : goal.returns-in_err-equals
returns-in_err-equals g c = record { goes = read-fails c.from_residual.result c.from_residual.ensures.0 (c.in_err-equals.ensures.leads (to c.args.reach c.args.cell.now)) }
