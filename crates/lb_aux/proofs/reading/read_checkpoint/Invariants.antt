use Rattle.std.proofs.Common.{◌≡◌, ◌≤◌, length}
use Rattle.lb_model_aux.specs.Reading.{counters_to_close, lines_of}
use Rattle.lb_aux.proofs.Sayings.{with_front}
use Rattle.lb_aux.proofs.reading.read_checkpoint.Given as goal

abbrev pub invariant-loop-rest : goal.invariant-loop-rest
invariant-loop-rest l = record {
  owed : with_front l.counters (counters_to_close (lines_of l.rest)) ≡ counters_to_close (lines_of l.text);
  shorter : length l.rest ≤ length l.text;
}

abbrev pub decreases-loop-rest : goal.decreases-loop-rest
decreases-loop-rest l = length l.rest
