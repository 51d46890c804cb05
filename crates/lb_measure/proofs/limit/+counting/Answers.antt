use Rattle.std.proofs.Common.{◌≡◌, ◌+◌, ◌<◌, IfSome, IfNone, ℕ, Option, Some, None, refl, sym, ap, subst, arith}
use Rattle.lb_model_paper.specs.Breaks.{items_in}
use Rattle.lb_measure.specs.Counts.{count_of_disc}
use Rattle.lb_measure.proofs.Counting.{count_of_disc_is, items_in-drop, items_in-end}
use Rattle.lb_measure.proofs.limit.+counting.Goals as goal

some_more : (o : Option ℕ) (P Q : ℕ → Type 0) → ((n : ℕ) → P n → Q n) → IfSome o P → IfSome o Q
some_more None P Q f h = h
some_more (Some n) P Q f h = f n h

none_more : (o : Option ℕ) (P Q : Type 0) → (P → Q) → IfNone o P → IfNone o Q
none_more None P Q f h = f h
none_more (Some n) P Q f h = h

pub left_behind-loop-node-init : goal.left_behind-loop-node-init
left_behind-loop-node-init t c = refl

pub left_behind-returns-in_err-left-clause-short :
    goal.left_behind-returns-in_err-left-clause-short
left_behind-returns-in_err-left-clause-short t c =
    let P = λ (o : Option ℕ). IfNone o (c.args.number < items_in c.args.nodes.now) in
    subst P (sym c.from_residual.ensures) (let short : c.args.number < items_in c.args.nodes.now = omega (arith, c.loop-node.invariant, c.in_err-left.ensures.short, items_in-drop c.args.nodes.now c.loop-node.node-index c.node-item.result c.loop-node-test.true c.node-item.is) in short)

pub left_behind-loop-node-preserved : goal.left_behind-loop-node-preserved
left_behind-loop-node-preserved t c = omega (arith, c.loop-node.invariant, c.in_ok-left.ensures.enough, items_in-drop c.args.nodes.now c.loop-node.node-index c.node-item.result c.loop-node-test.true c.node-item.is)

pub left_behind-returns-clause-enough : goal.left_behind-returns-clause-enough
left_behind-returns-clause-enough t c = omega (arith, c.loop-node.invariant, items_in-end c.args.nodes.now c.loop-node.node-index c.loop-node-test.false)

pub left_behind_parts-returns-in_err-left-clause-short :
    goal.left_behind_parts-returns-in_err-left-clause-short
left_behind_parts-returns-in_err-left-clause-short t c =
    let P = λ (o : Option ℕ). IfNone o (c.args.number < count_of_disc c.args.parts.now) in
    subst P (sym c.from_residual.ensures) (let short : c.args.number < count_of_disc c.args.parts.now = omega (arith, c.in_err-left.ensures.short, ap items_in c.as_slice.ensures, count_of_disc_is c.args.parts.now) in short)

pub left_behind_parts-returns-in_err-left-2-clause-short :
    goal.left_behind_parts-returns-in_err-left-2-clause-short
left_behind_parts-returns-in_err-left-2-clause-short t c =
    let P = λ (o : Option ℕ). IfNone o (c.args.number < count_of_disc c.args.parts.now) in
    subst P (sym c.from_residual-in_err-left-2.ensures) (let short : c.args.number < count_of_disc c.args.parts.now = omega (arith, c.in_ok-left.ensures.enough, c.in_err-left-2.ensures.short, ap items_in c.as_slice.ensures, ap items_in c.as_slice-2.ensures, count_of_disc_is c.args.parts.now) in short)

pub left_behind_parts-returns-clause-enough : goal.left_behind_parts-returns-clause-enough
left_behind_parts-returns-clause-enough t c =
    some_more c.left_behind-3.result (λ left. left + items_in c.as_slice-3.result.now ≡ c.in_ok-left-2.left) (λ left. left + count_of_disc c.args.parts.now ≡ c.args.number)
    (λ left e. omega (arith, c.in_ok-left.ensures.enough, c.in_ok-left-2.ensures.enough, ap items_in c.as_slice.ensures, ap items_in c.as_slice-2.ensures, ap items_in c.as_slice-3.ensures, count_of_disc_is c.args.parts.now))
    c.left_behind-3.ensures.enough

pub left_behind_parts-returns-clause-short : goal.left_behind_parts-returns-clause-short
left_behind_parts-returns-clause-short t c =
    none_more c.left_behind-3.result (c.in_ok-left-2.left < items_in c.as_slice-3.result.now) (c.args.number < count_of_disc c.args.parts.now)
    (λ s. omega (arith, c.in_ok-left.ensures.enough, c.in_ok-left-2.ensures.enough, ap items_in c.as_slice.ensures, ap items_in c.as_slice-2.ensures, ap items_in c.as_slice-3.ensures, count_of_disc_is c.args.parts.now))
    c.left_behind-3.ensures.short
