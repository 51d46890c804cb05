use Rattle.std.proofs.Common.{◌≡◌, ◌++◌, ap, sym, ◌∙◌, arith, append-nil}
use Rattle.lb_break.proofs.ends.trail.Goals as goal

pub returns : goal.returns
returns c = λ x t.
    let e : c.loop-q.q ≡ 0 = omega arith in
    sym (append-nil c.loop-q.ends.items) ∙ ap (λ y. c.loop-q.ends.items ++ y) (sym (ap x e ∙ t.first)) ∙ c.loop-q.invariant.so_far x t
