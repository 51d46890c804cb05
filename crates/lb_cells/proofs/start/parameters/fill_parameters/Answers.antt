use Rattle.std.proofs.Common.{◌∙◌, Some, ap, arith, refl, rules}
use Rattle.lb_rows.specs.Parameters.{parameter_rows}
use Rattle.lb_values.specs.declared.cell.Cell.TheVariants as cell
use Rattle.lb_values.specs.Kept.{put}
use Rattle.lb_model.specs.StartState.{start_parameter}
use Rattle.lb_maps.specs.CellMap.{at}
use Rattle.lb_cells.proofs.StartSteps.{rows_over-back}
use Rattle.lb_cells.proofs.start.parameters.fill_parameters.Goals as goal

pub loop-place-init : goal.loop-place-init
unfolding parameter_rows
loop-place-init c = record { within = omega arith; laid = refl }

pub loop-place-preserved : goal.loop-place-preserved
loop-place-preserved c = record {
  within = omega arith;
  laid = c.in_ok-insert.ensures.after
      ∙ ap (λ v. put (cell.Par c.at-parameter.result) (Some v) (at c.loop-place.entries)) c.start_value.ensures
      ∙ rows_over-back cell.Par start_parameter parameter_rows c.loop-place.place c.at-parameter.result
      (at c.loop-place.entries) (at c.args.entries.now) (omega arith) c.at-parameter.ensures c.loop-place.invariant.laid;
}

pub at-parameter-requires : goal.at-parameter-requires
unfolding parameter_rows
at-parameter-requires c = search rules
