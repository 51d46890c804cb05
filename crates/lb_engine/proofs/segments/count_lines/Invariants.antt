use Rattle.std.proofs.Common.{◌≡◌, ◌≤◌, ◌+◌, length}
use Rattle.lb_model.specs.Tokens.{cut_lines}
use Rattle.lb_engine.proofs.segments.count_lines.Given as goal

abbrev pub invariant-lines : goal.invariant-lines
invariant-lines l =
    record {
      counted : length (cut_lines l.text) ≡ l.count + length (cut_lines l.lines.rest.now);
      few : l.count ≤ l._line;
      left : length l.lines.rest.now + l._line ≤ length l.text;
    }
