use denote.Param.Send.{sendable}
use Rattle.std.proofs.Crossing.{crosses}
use Rattle.lb_cells.proofs.BetweenThreads.{values}
use Rattle.lb_cells.proofs.crossing.state_crosses.Goals as goal

pub crosses-requires-send-T : goal.crosses-requires-send-T
crosses-requires-send-T c κs = search (values, crosses, sendable) depth 40

pub crosses-requires-sync-T : goal.crosses-requires-sync-T
crosses-requires-sync-T c κs = search (values, crosses, sendable) depth 40
