use Rattle.std.proofs.Common.{take}
use Rattle.lb_nodes.specs.Totals.{AreSmallTotals, AreTotals}
use Rattle.lb_nodes.proofs.Totalling.{AreSmallUpTo}
use Rattle.lb_nodes.proofs.measure.measure.Given as goal

abbrev pub invariant-loop-node : goal.invariant-loop-node
invariant-loop-node l = record {
  so_far : AreTotals l.axis (take l.node-index l.nodes) l.totals;
  small : AreSmallTotals l.axis l.totals;
  sums : AreSmallUpTo l.axis l.nodes l.node-index;
}
