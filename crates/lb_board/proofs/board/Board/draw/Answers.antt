use Rattle.std.proofs.Common.{rules, sym, ap, ◌∙◌, subst, ◌<◌, arith}
use Rattle.lb_board.proofs.Draws.{sees_halt, draws}
use Rattle.lb_board.proofs.board.Board.draw.Goals as goal

pub load-requires : goal.load-requires
load-requires g c = (search rules, search rules, sees_halt _ _ _ _ _ c.args.seat.now.seat.me (search rules))

pub fetch_add-found-requires : goal.fetch_add-found-requires
fetch_add-found-requires g c =
    let sized = c.args.self.now.sized in
    let same = (c.load.ensures.2.1 c.if-load-eq1.false).0 in
    let ready = c.requires in (
      search rules,
      search rules,
      draws _ _ _ _ _ c.load.new.seat.me (sized.1 ∙ sym sized.2) (omega arith) (subst (λ m. 0 < m.0.allowance) (sym same) (search rules)) (ap (λ m. m.0.held) same ∙ ready.idle) (ap (λ m. m.0.no_more) same ∙ ready.going.0)
          (ap (λ m. m.0.halted) same ∙ ready.going.1),
    )
