use Rattle.std.proofs.Common.{◌≡◌, ◌++◌, length}
use Rattle.lb_model_aux.specs.Reading.{lines_of, read_of, said}
use Rattle.lb_aux.proofs.reading.read_aux.Given as goal

abbrev pub invariant-loop-rest : goal.invariant-loop-rest
invariant-loop-rest l = l.aux ++ said 0 (lines_of l.rest) ≡ read_of l.bytes

abbrev pub decreases-loop-rest : goal.decreases-loop-rest
decreases-loop-rest l = length l.rest
