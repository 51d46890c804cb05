use Rattle.lb_model_paper.specs.Lines.{AreEnds}
use Rattle.lb_nest.specs.Endings.{bad_lines}
use Rattle.std.proofs.Common.{◌≡◌, ◌++◌, drop}
use Rattle.lb_nest.proofs.bad_lines.bad_lines.Given as goal

abbrev pub invariant-loop-k : goal.invariant-loop-k
invariant-loop-k l = record {
  entries : l.entries ++ bad_lines l.place l.shape l.list l.from (drop l.k l.ends) ≡ bad_lines l.place l.shape l.list 0 l.ends;
  rises : AreEnds l.list l.from (drop l.k l.ends);
}
