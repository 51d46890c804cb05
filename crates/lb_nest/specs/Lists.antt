-- How a list ends, before the tokens behind its group are put.
use Rattle.std.specs.Prelude.{List}
use Rattle.lb_base.specs.declared.node.Boxed.{Boxed}
use Rattle.lb_base.specs.declared.node.Node.{Node, Adjust as AdjustNode}
use Rattle.lb_model_nest.specs.declared.nest.DiscPart.{DiscPart}
use Rattle.lb_model_nest.specs.Boxes.{box_placed, footnote_placed, list_left, mark_box_placed, part_behind, part_filled}
use Rattle.lb_model_nest.specs.Wholes.{Executed, Whole, and_then, executed, on, put, stop, with_node}
use Rattle.lb_nest.specs.declared.list_end.EndedList.{EndedList}
use Rattle.lb_nest.specs.declared.list_end.EndedList.TheVariants as ended
use Rattle.lb_nest.specs.declared.list_end.Material.{Material}
use Rattle.lb_nest.specs.declared.list_end.Material.TheVariants as material
use Rattle.lb_nest.specs.declared.list_end.Packing.{Packing}
use Rattle.lb_nest.specs.declared.list_end.Packing.TheVariants as packing
use Rattle.lb_nest.specs.declared.list_end.Taken.{Taken}
use Rattle.lb_nest.specs.declared.list_end.Taken.TheVariants as taken

-- where a box goes
abbrev pub packed_placed : Packing → Boxed → Whole → Executed
packed_placed (packing.Box context) box w = box_placed context box w
packed_placed packing.Footnote box w = footnote_placed box w
packed_placed (packing.MarkBox is_last) box w = mark_box_placed is_last box w

-- a part of a discretionary is filled, and the next one is made
abbrev pub part_placed : DiscPart → List Node → Whole → Executed
part_placed part nodes w = part_behind part (part_filled part nodes w)

-- where material goes
abbrev pub material_placed : Material → Whole → Executed
material_placed (material.Packed what box) w = packed_placed what box w
material_placed (material.Adjust nodes) w = on (with_node (AdjustNode nodes) w)
material_placed (material.Part part nodes) w = part_placed part nodes w

-- its list is left with its group, and it comes to its place, or there is a fault
abbrev pub behind_taken : Taken → Whole → Executed
behind_taken (taken.Material m) w = and_then (list_left w) (material_placed m)
behind_taken (taken.Stops kind) w = stop kind w

-- the tokens come next, and then it comes to its place
abbrev pub behind_list : EndedList → Whole → Executed
behind_list (ended.Later toks m) w = and_then (put toks w) (material_placed m)
behind_list (ended.Ends went) w = executed went w
