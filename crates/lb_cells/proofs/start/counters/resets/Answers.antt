use Rattle.std.proofs.Common.{refl}
use Rattle.lb_model.specs.StartLists.{start_resets}
use Rattle.lb_cells.proofs.start.counters.resets.Goals as goal

pub returns-clause-rows : goal.returns-clause-rows
unfolding start_resets
returns-clause-rows c = refl
