use Rattle.std.proofs.Common.{◌∙◌, Some, ap, arith, refl, rules}
use Rattle.lb_rows.specs.Parameters.{parameter_name, parameter_rows}
use Rattle.lb_values.specs.declared.cell.Cell.TheVariants as cell
use Rattle.lb_values.specs.Kept.{put}
use Rattle.lb_model.specs.StartState.{parameter_meaning}
use Rattle.lb_maps.specs.CellMap.{at}
use Rattle.lb_cells.proofs.StartSteps.{rows_over-back}
use Rattle.lb_cells.proofs.start.words.fill_parameter_words.Goals as goal

pub loop-place-init : goal.loop-place-init
unfolding parameter_rows
loop-place-init c = record { within = omega arith; laid = refl }

pub loop-place-preserved : goal.loop-place-preserved
loop-place-preserved c = record {
  within = omega arith;
  laid = c.in_ok-fill_word.ensures
      ∙ ap (λ n. put (cell.Word n) (Some (parameter_meaning c.at-parameter.result)) (at c.loop-place.entries)) c.name.ensures
      ∙ rows_over-back (λ parameter. cell.Word (parameter_name parameter)) parameter_meaning parameter_rows c.loop-place.place c.at-parameter.result
      (at c.loop-place.entries) (at c.args.entries.now) (omega arith) c.at-parameter.ensures c.loop-place.invariant.laid;
}

pub at-parameter-requires : goal.at-parameter-requires
unfolding parameter_rows
at-parameter-requires c = search rules
