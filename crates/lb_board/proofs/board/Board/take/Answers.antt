use Rattle.std.proofs.Common.{rules, sym, ◌∙◌, ℕ, ◌≡◌, ◌+◌, ◌-◌, ◌∷◌, arith, Some}
use Rattle.atomic_table.specs.Table.{rest}
use Rattle.lb_board.specs.Views.{with_taking}
use Rattle.lb_board.proofs.Marks.{empties, first_out, is_taking, takes_one}
use Rattle.lb_board.proofs.board.Board.take.Goals as goal

pub compare_exchange-requires : goal.compare_exchange-requires
compare_exchange-requires g c =
    let sized = c.args.self.now.sized in let low = c.requires.within in
    (search rules, omega arith, takes_one _ _ _ _ _ c.args.seat.now.seat.me c.args.chapter (sized.1 ∙ sym sized.2) (omega arith) (search rules) c.requires.board.taking)

pub exchange-posted-requires : goal.exchange-posted-requires
exchange-posted-requires g c =
    let did = c.compare_exchange.ensures.2.0 c.if-compare_exchange-ne-POSTED.false in
    let at : ℕ = (c.args.chapter + 2) - 2 in let back : at ≡ c.args.chapter = omega arith in
    let before = c.args.seat.now.seat.me in let after = c.compare_exchange.new.seat.me in
    (search rules, (Some did.0, first_out after (with_taking at before.0) c.args.chapter at (Some did.0) before.1 did.1 back))

pub swap-requires : goal.swap-requires
swap-requires g c =
    let did = c.compare_exchange.ensures.2.0 c.if-compare_exchange-ne-POSTED.false in
    let at : ℕ = (c.args.chapter + 2) - 2 in let back : at ≡ c.args.chapter = omega arith in
    let before = c.args.seat.now.seat.me in let after = c.compare_exchange.new.seat.me in
    let taking = is_taking after before.0 c.args.chapter at ((at, Some did.0) ∷ before.1) did.1 back c.requires.board.live in
    let sized = c.args.self.now.sized in let low = c.requires.within in
    (search rules, omega arith, empties _ _ _ _ _ c.exchange-posted.new.seat.me after.0 c.args.chapter (rest after.1) c.exchange-posted.ensures.3 (sized.1 ∙ sym sized.2) (omega arith) taking.0 taking.1)
