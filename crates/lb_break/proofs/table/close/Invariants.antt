use Rattle.std.proofs.Common.{◌≡◌, ℕ, ◌+◌, ◌<◌, ◌≤◌, ◌-◌, not, false, get_or, length}
use Rattle.lb_model_paper.specs.BestBreaks.{is_stopped}
use Rattle.lb_measure.specs.Measures.{paragraph_in}
use Rattle.lb_break.specs.Points.{point_at}
use Rattle.lb_break.proofs.table.close.Given as goal

abbrev pub invariant-loop-index : goal.invariant-loop-index
invariant-loop-index l = record {
  within : l.index ≤ length l.points;
  from : l.begin ≤ l.index;
  done : (q : ℕ) → l.begin ≤ q → q < l.index → get_or l.live q false ≡ not (is_stopped (paragraph_in l.measured) (point_at l.points q).class (point_at l.points q).at (l.j + 1));
  rest : (q : ℕ) → l.index ≤ q → q < length l.points → get_or l.live q false ≡ not (is_stopped (paragraph_in l.measured) (point_at l.points q).class (point_at l.points q).at l.j);
}

abbrev pub decreases-loop-index : goal.decreases-loop-index
decreases-loop-index l = length l.points - l.index
