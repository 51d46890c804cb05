-- Items that are places only before others.
use Rattle.std.specs.Prelude.{Bool, false}
use Rattle.lb_base.specs.declared.node.Boxed.{Boxed}
use Rattle.lb_base.specs.declared.node.Discretionary.{Discretionary}
use Rattle.lb_base.specs.declared.node.HeadMark.{HeadMark}
use Rattle.lb_base.specs.declared.node.HeadMark.TheOpen.{Kern}
use Rattle.lb_base.specs.declared.node.Node.{Node, Node-F, out-Node}
use Rattle.lb_model_paper.specs.Pages.{is_explicit}

abbrev pub waits_in : Node-F HeadMark Node Boxed Discretionary → Bool
waits_in (Kern width origin) = is_explicit origin
waits_in _ = false

-- a kern is a place only before glue
unfoldable pub waits : Node → Bool
waits node = waits_in (out-Node node)
