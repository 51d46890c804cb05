use Rattle.std.proofs.Common.{◌≡◌, ◌+◌, drop}
use Rattle.std.specs.List.{position_or_len}
use Rattle.lb_aux.specs.Parts.{is_feed}
use Rattle.lb_aux.proofs.lines.feed_at.Given as goal

abbrev pub invariant-loop-end : goal.invariant-loop-end
invariant-loop-end l = position_or_len is_feed l.text ≡ l.end + position_or_len is_feed (drop l.end l.text)
