-- How a list is packed.
use Rattle.std.specs.Prelude.{◌≡◌, List}
use Rattle.lb_base.specs.declared.glue.Target.{Target}
use Rattle.lb_base.specs.declared.node.Axis.{Axis}
use Rattle.lb_base.specs.declared.node.Node.{Node}
use Rattle.lb_model_paper.specs.Boxes.{box_size, set_of}
use Rattle.lb_model_paper.specs.Nodes.{Size as Meant}
use Rattle.lb_nodes.specs.declared.sizes.Size.{Size}
use Rattle.lb_nodes.specs.declared.plan.Plan.{Plan}

-- a size in the code is that of a definition
pub record IsSizeOf (size : Size) (meant : Meant) : Type 0 where
  pub width : size.width ≡ meant.width
  pub height : size.height ≡ meant.height
  pub depth : size.depth ≡ meant.depth

-- the size of the box of a list, and how its glue is set
pub record IsPlan (axis : Axis) (nodes : List Node) (target : Target) (plan : Plan) : Type 0 where
  pub size : IsSizeOf plan.size (box_size axis nodes target)
  pub glue_set : plan.glue_set ≡ set_of axis nodes target
