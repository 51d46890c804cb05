use Rattle.std.proofs.Common.{◌≡◌, ◌∙◌, Some, ap, arith, of_z, refl, rules, to_z, w32}
use Rattle.lb_values.specs.declared.cell.Cell.TheVariants as cell
use Rattle.lb_values.specs.declared.value.Value.TheVariants as value
use Rattle.lb_values.specs.Kept.{put}
use Rattle.lb_model.specs.StartLists.{start_counters}
use Rattle.lb_maps.specs.CellMap.{at}
use Rattle.lb_cells.proofs.StartSteps.{rows_over-back}
use Rattle.lb_cells.proofs.start.counters.fill_counters.Goals as goal

pub loop-place-init : goal.loop-place-init
unfolding start_counters
loop-place-init c = record { within = omega arith; laid = refl }

pub loop-place-preserved : goal.loop-place-preserved
loop-place-preserved c =
    let number : to_z w32 (of_z w32 c.counter-number.result.1) ≡ c.counter-number.result.1 = search rules in record {
      within = omega arith;
      laid = c.in_ok-fill_counter.ensures
          ∙ ap (λ n. put (cell.Counter c.counter-number.result.0.now) (Some (value.Number n)) (at c.loop-place.entries)) number
          ∙ rows_over-back (λ counter. cell.Counter counter.0) (λ counter. value.Number counter.1) start_counters c.loop-place.place (c.counter-number.result.0.now, c.counter-number.result.1)
          (at c.loop-place.entries) (at c.args.entries.now) (omega arith) c.counter-number.ensures c.loop-place.invariant.laid;
    }
