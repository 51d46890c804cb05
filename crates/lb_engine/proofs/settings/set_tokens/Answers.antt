use Rattle.std.proofs.Common.{refl}
use Rattle.std.specs.Prelude.{List}
use Rattle.lb_base.specs.declared.token.Tok.{Tok}
use Rattle.lb_base.specs.declared.fault.Kind.TheVariants.{BadCode}
use Rattle.lb_values.specs.declared.cell.Cell.{Cell}
use Rattle.lb_values.specs.declared.reach.Reach.{Reach}
use Rattle.lb_values.specs.declared.value.Value.TheVariants as value
use Rattle.lb_model.specs.Assignments.{registered}
use Rattle.lb_model_nest.specs.declared.turn.Went.TheVariants.{On}
use Rattle.lb_model_nest.specs.Wholes.{Executed, Whole, change_or, executed}
use Rattle.lb_engine.proofs.RowLemmas.{read-ends, read-fails, read-then}
use Rattle.lb_engine.specs.Reads.{behind_reading}
use Rattle.lb_engine.proofs.settings.set_tokens.Goals as goal

-- the cell is set to it
abbrev to : Reach → Cell → List Tok → Whole → Executed
to reach cell x v = change_or BadCode reach cell (registered cell (value.Tokens x)) v

pub set_variable-requires : goal.set_variable-requires
set_variable-requires g c = record { takes = c.requires.takes; holds = (c.in_ok-value.ensures.leads (λ x. executed On)).keeps }

pub returns-in-Of : goal.returns-in-Of
returns-in-Of g c =
    let row = to c.args.reach c.args.cell.now in
    record {
      goes = read-then (behind_reading row) c.set_variable.result c.in-Of.is (c.in_ok-value.ensures.leads row) c.set_variable.ensures.goes;
    }

pub returns-in-Stops : goal.returns-in-Stops
returns-in-Stops g c = record { goes = read-ends (behind_reading (to c.args.reach c.args.cell.now)) executed c.in-Stops.went c.in-Stops.is refl (c.in_ok-value.ensures.leads (to c.args.reach c.args.cell.now)) }

pub returns-in_err-value : goal.returns-in_err-value
returns-in_err-value g c = record { goes = read-fails c.from_residual.result c.from_residual.ensures.0 (c.in_err-value.ensures.leads (to c.args.reach c.args.cell.now)) }
