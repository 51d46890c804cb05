use Rattle.std.proofs.Common.{◌∙◌, ◌+◌, ◌<◌, ◌≤◌, Bool, ℕ, arith, ap, sym, subst, get_or}
use Rattle.lb_aux.proofs.GroupSteps.{close-here, close-more, close-none, turned-most}
use Rattle.lb_aux.proofs.groups.place_of_close.Goals as goal

pub returns-then-level-eq0 : goal.returns-then-level-eq0
returns-then-level-eq0 c =
    let closes = ap (λ (n : ℕ). (c.turned.result.0, n)) (sym c.if-level-eq0.true) ∙ c.turned.ensures in
    (c.loop-at-test.true, close-here c.args.text.now c.loop-at.at c.loop-at.level c.loop-at.behind c.turned.result.0 c.loop-at-test.true c.loop-at.invariant.same closes)

pub loop-at-preserved : goal.loop-at-preserved
loop-at-preserved c =
    let some : 0 < c.turned.result.1 = omega (arith, c.if-level-eq0.false) in
    let most : c.turned.result.1 ≤ c.loop-at.level + 1 =
    subst (λ (t : Bool × ℕ). t.1 ≤ c.loop-at.level + 1) (sym c.turned.ensures) (turned-most c.loop-at.behind c.loop-at.level (get_or c.args.text.now c.loop-at.at 0)) in
    record {
      same = close-more c.args.text.now c.loop-at.at c.loop-at.level c.loop-at.behind c.turned.result.0 c.turned.result.1 c.loop-at-test.true c.loop-at.invariant.same c.turned.ensures some;
      some = some;
      at_most = omega (arith, most, c.loop-at.invariant.at_most);
    }

pub returns : goal.returns
returns c = close-none c.args.text.now c.loop-at.at c.loop-at.level c.loop-at.behind (omega (arith, c.loop-at-test.false)) c.loop-at.invariant.same
