use denote.Param.Send.{sendable}
use Rattle.std.proofs.Crossing.{crosses}
use Rattle.lb_cells.proofs.BetweenThreads.{values}
use Rattle.lb_record.proofs.crossing.all_cross.Goals as goal

pub crosses-requires-2-send-T : goal.crosses-requires-2-send-T
crosses-requires-2-send-T c κs = search (values, crosses, sendable) depth 40

pub crosses-requires-2-sync-T : goal.crosses-requires-2-sync-T
crosses-requires-2-sync-T c κs = search (values, crosses, sendable) depth 40

pub crosses-requires-3-send-T : goal.crosses-requires-3-send-T
crosses-requires-3-send-T c κs = search (values, crosses, sendable) depth 40

pub crosses-requires-3-sync-T : goal.crosses-requires-3-sync-T
crosses-requires-3-sync-T c κs = search (values, crosses, sendable) depth 40

pub crosses-requires-4-send-T : goal.crosses-requires-4-send-T
crosses-requires-4-send-T c κs = search (values, crosses, sendable) depth 40

pub crosses-requires-4-sync-T : goal.crosses-requires-4-sync-T
crosses-requires-4-sync-T c κs = search (values, crosses, sendable) depth 40

pub crosses-requires-5-send-T : goal.crosses-requires-5-send-T
crosses-requires-5-send-T c κs = search (values, crosses, sendable) depth 40

pub crosses-requires-5-sync-T : goal.crosses-requires-5-sync-T
crosses-requires-5-sync-T c κs = search (values, crosses, sendable) depth 40
