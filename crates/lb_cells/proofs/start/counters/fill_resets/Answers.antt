use Rattle.std.proofs.Common.{◌∙◌, arith, map, refl}
use Rattle.lb_values.specs.declared.cell.Cell.TheVariants as cell
use Rattle.lb_values.specs.declared.value.Value.TheVariants as value
use Rattle.lb_model.specs.StartLists.{start_resets}
use Rattle.lb_maps.specs.CellMap.{at}
use Rattle.lb_cells.proofs.StartSteps.{rows_over-back}
use Rattle.lb_cells.proofs.start.counters.fill_resets.Goals as goal

pub loop-place-init : goal.loop-place-init
unfolding start_resets
loop-place-init c = record { within = omega arith; laid = refl }

pub loop-place-preserved : goal.loop-place-preserved
loop-place-preserved c = record {
  within = omega arith;
  laid = c.in_ok-fill_reset.ensures
      ∙ rows_over-back (λ row. cell.Resets row.0) (λ row. value.Names row.1) start_resets c.loop-place.place (c.reset.result.0.now, map (λ n. n.now) c.reset.result.1.now)
      (at c.loop-place.entries) (at c.args.entries.now) (omega arith) c.reset.ensures c.loop-place.invariant.laid;
}
