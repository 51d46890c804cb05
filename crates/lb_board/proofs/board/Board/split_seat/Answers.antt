use Rattle.std.proofs.Common.{rules}
use Rattle.lb_board.proofs.Joins.{splits}
use Rattle.lb_board.proofs.board.Board.split_seat.Goals as goal

pub split_seat-other-requires : goal.split_seat-other-requires
split_seat-other-requires g c = (search rules, search rules, splits _ _ _ _ _ c.requires.room)
