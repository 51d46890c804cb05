use Rattle.std.proofs.Common.{◌≡◌, drop, reverse}
use Rattle.lb_model_paper.specs.Breaks.{post_at}
use Rattle.lb_model_paper.specs.Lines.{AreEnds}
use Rattle.lb_lines.specs.Apart.{joined_of, lines_apart_from, lines_apart_of}
use Rattle.lb_lines.specs.Cuts.{so_far}
use Rattle.lb_lines.proofs.paragraph.lines_apart.Given as goal

abbrev pub invariant-loop-k : goal.invariant-loop-k
invariant-loop-k l = record {
  pending : reverse l.pending ≡ drop l.taken l.fn.list;
  post : l.post ≡ post_at l.fn.list l.taken;
  rises : AreEnds l.fn.list l.taken (drop l.k l.ends);
  whole : joined_of (so_far l.added.too_deep l.added.lines) (lines_apart_from l.shape l.fn.list l.taken (drop l.k l.ends)) ≡ lines_apart_of l.shape l.fn.list l.ends;
}
