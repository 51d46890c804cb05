use Rattle.std.proofs.Common.{append_assoc}
use Rattle.lb_dvi.proofs.Lengths.{difference-read}
use Rattle.lb_dvi.proofs.pen.Pen.push_both_moves.Goals as goal

pub returns : goal.returns
returns c =
    rw (c.in_ok-push_move-2.ensures, c.in_ok-push_move.ensures, difference-read c.args.v c.args.self.now.v c.requires.baseline c.args.self.now.near.1, difference-read c.args.h c.args.self.now.h c.requires.left c.args.self.now.near.0)
    (simp append_assoc)
