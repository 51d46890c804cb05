use Rattle.std.proofs.Common.{refl}
use Rattle.lb_model.specs.StartLists.{start_counters}
use Rattle.lb_cells.proofs.start.counters.counters.Goals as goal

pub returns-clause-rows : goal.returns-clause-rows
unfolding start_counters
returns-clause-rows c = refl
