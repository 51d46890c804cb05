use Rattle.std.proofs.Common.{◌≡◌, ℕ, ◌≤◌, ◌*◌, take}
use Rattle.std.specs.Prelude.{unsigned_abs}
use Rattle.lb_model_paper.specs.Boxes.{give_of, shift_after}
use Rattle.lb_model_paper.specs.Dvi.{IsSmall}
use Rattle.lb_model_paper.specs.Nodes.{total}
use Rattle.lb_nodes.proofs.setting.are_small_shifts.Given as goal

abbrev pub invariant-loop-node : goal.invariant-loop-node
invariant-loop-node l = record {
  part : l.part ≡ total (give_of l.set) (take l.node-index l.nodes);
  bounded : unsigned_abs l.part ≤ 2147483648 * l.node-index;
  shifts : (k : ℕ) → k ≤ l.node-index → IsSmall (shift_after l.set l.nodes k);
}
