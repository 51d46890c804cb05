use Rattle.std.proofs.Common.{rules}
use Rattle.lb_board.proofs.Joins.{opens}
use Rattle.lb_board.proofs.board.Board.new.Goals as goal

pub vacant-requires : goal.vacant-requires
vacant-requires g c = opens _ _ _ _ (search rules)
