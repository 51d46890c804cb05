use Rattle.std.proofs.Common.{◌≡◌, ◌*◌, ◌≤◌, ◌+ℤ◌, take}
use Rattle.std.specs.Prelude.{IfSome, unsigned_abs}
use Rattle.lb_model_paper.specs.Boxes.{shift_after}
use Rattle.lb_model_paper.specs.Nodes.{along, total}
use Rattle.lb_nodes.specs.Setting.{given_behind}
use Rattle.lb_marks.specs.Spots.{IsStand, spot_of}
use Rattle.lb_marks.proofs.Boxes.{Going}
use Rattle.lb_marks.proofs.drawing.+drawing.Given as goal

abbrev pub invariant-push_box-loop-node : goal.invariant-push_box-loop-node
invariant-push_box-loop-node l = record {
  going : Going l.boxed (spot_of l.spot) l.fn.marks l.marks l.node-index;
  room : l.room ≡ total (along l.boxed.axis) (take l.node-index l.boxed.items);
  shift : l.shift ≡ shift_after l.boxed.glue_set l.boxed.items l.node-index;
  given : l.shifts ≡ given_behind l.boxed l.node-index;
  known : IfSome l.known (IsStand l.boxed.axis l.boxed.height (spot_of l.spot) (l.room +ℤ l.shift));
  near : unsigned_abs l.shifts.part ≤ 2147483648 * l.node-index;
}
