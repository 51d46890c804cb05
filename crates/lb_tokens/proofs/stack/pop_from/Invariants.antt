use Rattle.std.proofs.Common.{◌≡◌, reverse}
use Rattle.lb_tokens.specs.Stacks.{flat, turns}
use Rattle.lb_tokens.proofs.stack.pop_from.Given as goal

abbrev pub decreases-entries : goal.decreases-entries
decreases-entries l = turns (reverse l.entries.items)

abbrev pub invariant-entries : goal.invariant-entries
invariant-entries l = flat (reverse l.entries.items) ≡ flat (reverse l.fn.entries.items)
