use Rattle.std.proofs.Common.{drop}
use Rattle.lb_model_paper.specs.Lines.{AreEnds}
use Rattle.lb_lines.proofs.rising.are_ends.Given as goal

abbrev pub invariant-loop-k : goal.invariant-loop-k
invariant-loop-k l = record {
  rises : AreEnds l.list l.next (drop l.k l.ends) → AreEnds l.list 0 l.ends;
}
