use Rattle.std.proofs.Common.{rules}
use Rattle.lb_board.proofs.Joins.{joins, learns}
use Rattle.lb_board.proofs.board.Board.join_seat.Goals as goal

pub join_seat-requires : goal.join_seat-requires
join_seat-requires g c = (search rules, search rules, search rules, search rules, joins _ _ _ _ _ _ _ (search rules) (search rules) (search rules) (search rules))

pub load-requires : goal.load-requires
load-requires g c = (search rules, search rules, learns _ _ _ _ _ _)
