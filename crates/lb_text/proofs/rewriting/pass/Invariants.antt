use Rattle.std.proofs.Common.{◌≡◌, ◌≤◌, length}
use Rattle.lb_model_paper.specs.Words.{passed}
use Rattle.lb_text.specs.Stops.{Begins, cursor_of}
use Rattle.lb_text.proofs.rewriting.pass.Given as goal

abbrev pub invariant-loop-more : goal.invariant-loop-more
invariant-loop-more l =
    (passed l.font l.more (cursor_of l.list l.left l.stack.items) ≡ passed l.font l.fn.count (cursor_of l.fn.list l.fn.left l.fn.stack.items))
    × Begins l.fn.list l.list
    × (length l.stack.items ≤ length l.fn.stack.items)

abbrev pub decreases-loop-more : goal.decreases-loop-more
decreases-loop-more l = l.more
