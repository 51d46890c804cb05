use Rattle.std.proofs.Common.{None, ap}
use Rattle.lb_maps.specs.CellMap.{at, held_now}
use Rattle.lb_cells.specs.StateCells.{state_of, told_over}
use Rattle.lb_cells.proofs.state.State.over.Goals as goal

pub returns-clause-state : goal.returns-clause-state
unfolding at
returns-clause-state c = ap (λ es cell. told_over (state_of c.args.base) cell (held_now None es cell)) c.new-over.ensures.entries
