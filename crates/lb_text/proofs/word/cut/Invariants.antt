use Rattle.std.proofs.Common.{◌≡◌, ◌≤◌, length, take}
use Rattle.lb_text.proofs.word.cut.Given as goal

abbrev pub invariant-loop-list : goal.invariant-loop-list
invariant-loop-list l = (take l.kept l.list ≡ take l.kept l.fn.list) × (l.kept ≤ length l.list)

abbrev pub decreases-loop-list : goal.decreases-loop-list
decreases-loop-list l = length l.list
