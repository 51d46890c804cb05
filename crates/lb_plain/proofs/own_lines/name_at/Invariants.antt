use Rattle.std.proofs.Common.{◌≡◌, ◌+◌, drop}
use Rattle.std.specs.List.{prefix_len}
use Rattle.lb_model_book.specs.OwnLines.{is_name_byte}
use Rattle.lb_plain.proofs.own_lines.name_at.Given as goal

abbrev pub invariant-loop-end : goal.invariant-loop-end
invariant-loop-end l = prefix_len is_name_byte l.text ≡ l.end + prefix_len is_name_byte (drop l.end l.text)
