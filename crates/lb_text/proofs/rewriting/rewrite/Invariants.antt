use Rattle.std.proofs.Common.{◌≡◌, ◌+◌, ◌*◌, length}
use Rattle.lb_model_paper.specs.Words.{set_from, word_start}
use Rattle.lb_text.specs.Stops.{Begins, cursor_of}
use Rattle.lb_text.proofs.rewriting.rewrite.Given as goal

abbrev pub invariant-loop-next : goal.invariant-loop-next
invariant-loop-next l =
    (set_from l.font l.steps (cursor_of l.list l.left l.stack.items) ≡ set_from l.font l.fn.steps (word_start l.fn.list l.codes))
    × Begins l.fn.list l.list

abbrev pub decreases-loop-next : goal.decreases-loop-next
decreases-loop-next l = 2 * l.steps + length l.stack.items
