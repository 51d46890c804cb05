use Rattle.std.proofs.Common.{rules}
use Rattle.lb_board.proofs.Draws.{halts}
use Rattle.lb_board.proofs.board.Board.halt.Goals as goal

pub fetch_or-requires : goal.fetch_or-requires
fetch_or-requires g c = (search rules, search rules, halts _ _ _ _ _ c.args.seat.now.seat.me (search rules))
