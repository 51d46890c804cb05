use Rattle.std.proofs.Common.{◌≡◌, map, take}
use Rattle.lb_model.specs.StartLists.{start_counters}
use Rattle.lb_cells.proofs.start.counters.checkpoint_list.Given as goal

abbrev pub invariant-loop-place : goal.invariant-loop-place
invariant-loop-place l = l.names ≡ map (λ counter. counter.0) (take l.place start_counters)
