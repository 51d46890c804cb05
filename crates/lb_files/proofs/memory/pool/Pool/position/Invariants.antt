use Rattle.std.proofs.Common.{◌≡◌, ◌+◌, sum, drop, length, nat_eq}
use Rattle.std.specs.List.{position, position_from}
use lib.Pointwise.{pointwise}
use Rattle.lb_files.specs.Cut.{cut}
use Rattle.lb_files.proofs.memory.pool.Pool.position.Given as goal

abbrev pub invariant-loop-at : goal.invariant-loop-at
invariant-loop-at l =
    let lengths = l.self-inside.lengths.items in
    let bytes = l.self-inside.bytes.items in
    record {
      left : l.start + sum (drop l.at lengths) ≡ length bytes;
      as_whole : position (pointwise nat_eq l.text) (cut lengths bytes) ≡ position_from (pointwise nat_eq l.text) l.at (cut (drop l.at lengths) (drop l.start bytes));
    }
