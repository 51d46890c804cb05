-- Boxes, and other lists that are made inside a list (TeXbook, chapters 12, 21 and 24; tex.web, part 47, sections 1071 to 1120).
use Rattle.std.specs.Prelude.{Bool, true, false, ℤ, pos, List, [], ◌∷◌, Option, Some, None, Result, Ok, Err, if◌then◌else◌}
use Rattle.lb_base.specs.declared.fault.Kind.{Kind}
use Rattle.lb_base.specs.declared.fault.Kind.TheVariants.{GroupExtra}
use Rattle.lb_base.specs.declared.glue.Target.{Target}
use Rattle.lb_base.specs.declared.glue.Target.TheVariants.{Natural}
use Rattle.lb_base.specs.declared.node.Axis.{Axis}
use Rattle.lb_base.specs.declared.node.Axis.TheVariants.{Horizontal, Vertical}
use Rattle.lb_base.specs.declared.node.Boxed.{Boxed, out-Boxed, roll-Boxed}
use Rattle.lb_base.specs.declared.node.Discretionary.{Discretionary, out-Discretionary, roll-Discretionary}
use Rattle.lb_base.specs.declared.node.HeadMark.{HeadMark, Both, Right}
use Rattle.lb_base.specs.declared.node.HeadMark.TheOpen.{Boxed as InnerBox, Disc as DiscLayer}
use Rattle.lb_base.specs.declared.node.Node.{Node, Node-F, out-Node, Adjust as AdjustNode, Boxed as BoxNode, Disc as DiscNode, Ins as InsNode, Mark as MarkNode}
use Rattle.lb_values.specs.declared.cell.Cell.TheVariants as cell
use Rattle.lb_values.specs.declared.reach.Reach.TheVariants.{Local}
use Rattle.lb_values.specs.declared.value.Value.TheVariants as value
use Rattle.lb_model.specs.declared.group.GroupKind.TheVariants.{Material}
use Rattle.lb_model_paper.specs.Boxes.{packs}
use Rattle.lb_model_paper.specs.Nodes.{shown}
use Rattle.lb_model_nest.specs.declared.nest.BoxContext.{BoxContext}
use Rattle.lb_model_nest.specs.declared.nest.BoxContext.TheVariants.{Register, Shifted}
use Rattle.lb_model_nest.specs.declared.nest.DiscPart.{DiscPart}
use Rattle.lb_model_nest.specs.declared.nest.DiscPart.TheVariants.{PreBreak, PostBreak, NoBreak}
use Rattle.lb_model_nest.specs.declared.nest.ListKind.{ListKind}
use Rattle.lb_model_nest.specs.declared.nest.ListKind.TheVariants as list
use Rattle.lb_model_nest.specs.Groups.{end_group_character, group_closed, group_opened}
use Rattle.lb_model_nest.specs.Pages.{added}
use Rattle.lb_model_nest.specs.Paragraphs.{box_added, paragraph_ended}
use Rattle.lb_model_nest.specs.Wholes.{Executed, Whole, and_then, change, entered, is_vertical, left_level, on, stop, with_node}

-- ---- Where boxes go

abbrev pub with_shift : ℤ → Boxed → Boxed
with_shift shift box = roll-Boxed (record (out-Boxed box) { shift = shift })

abbrev pub box_in_list : Boxed → Whole → Executed
box_in_list box w = if is_vertical w.feed.mode then box_added box w else on (with_node (BoxNode box) w)

-- into the list, or into a register
unfoldable pub box_placed : BoxContext → Boxed → Whole → Executed
box_placed (Shifted shift) box w = box_in_list (with_shift shift box) w
box_placed (Register reach n) box w = change reach (cell.Boxed n) (value.Boxed box) w

-- where there is no box, nothing is added, and a register is void
abbrev pub void_placed : BoxContext → Whole → Executed
void_placed (Shifted shift) w = on w
void_placed (Register reach n) w = change reach (cell.Boxed n) value.Absent w

abbrev pub placed : BoxContext → Option Boxed → Whole → Executed
placed context (Some box) w = box_placed context box w
placed context None w = void_placed context w

-- ---- Lists that begin

-- in a group of its own
unfoldable pub list_opened : ListKind → Whole → Executed
list_opened kind w = and_then (group_opened Material w) (λ v. on (entered kind v))

-- a discretionary is added to the list, and its parts are then made one after another
abbrev pub empty_parts : Node
empty_parts = DiscNode (roll-Discretionary (record { pre_break = []; post_break = []; no_break = [] }))

unfoldable pub parts_opened : Whole → Executed
parts_opened w = list_opened (list.Discretionary PreBreak) (with_node empty_parts w)

-- the boxes of a mark are made in roman of the normal size
abbrev pub mark_box_opened : Bool → Whole → Executed
mark_box_opened is_last w =
    and_then (and_then (list_opened (list.MarkBox is_last) w) (change Local cell.Size (value.Number (pos 4)))) (change Local cell.Style (value.Number (pos 0)))

unfoldable pub mark_opened : Bool → Whole → Executed
mark_opened is_last w = mark_box_opened is_last (entered list.Mark w)

-- ---- Lists that end

-- the innermost list is left with its group
abbrev pub list_left : Whole → Executed
list_left w = group_closed Material (left_level w)

-- a list is packed: it is taken out of the nest
abbrev pub emptied : Whole → Whole
emptied w = record w { level = record w.level { nodes = [] } }

abbrev pub packed_to : Result Boxed Kind → (Boxed → Whole → Executed) → Whole → Executed
packed_to (Err kind) row w = stop kind w
packed_to (Ok box) row w = and_then (list_left w) (row box)

abbrev pub packing : Axis → Target → (Boxed → Whole → Executed) → Whole → Executed
packing axis size row w = packed_to (packs axis (shown w.level.nodes) size) row (emptied w)

abbrev pub adjust_ended : Whole → Executed
adjust_ended w = and_then (list_left w) (λ v. on (with_node (AdjustNode w.level.nodes) v))

abbrev pub footnote_placed : Boxed → Whole → Executed
footnote_placed box w = on (with_node (InsNode box) w)

-- a part of the discretionary that stands last: no discretionary stands inside it, but the third part of each in its place
abbrev pub with_part : DiscPart → List Node → Discretionary → Discretionary
with_part PreBreak nodes parts = roll-Discretionary (record (out-Discretionary parts) { pre_break = nodes })
with_part PostBreak nodes parts = roll-Discretionary (record (out-Discretionary parts) { post_break = nodes })
with_part NoBreak nodes parts = roll-Discretionary (record (out-Discretionary parts) { no_break = nodes })

abbrev pub part_in : DiscPart → List Node → Node → Node-F HeadMark Node Boxed Discretionary → Node
part_in part nodes node (DiscLayer parts) = DiscNode (with_part part nodes parts)
part_in part nodes node _ = node

abbrev pub part_last : DiscPart → List Node → List Node → List Node
part_last part nodes [] = []
part_last part nodes (node ∷ []) = part_in part nodes node (out-Node node) ∷ []
part_last part nodes (node ∷ next ∷ around) = node ∷ part_last part nodes (next ∷ around)

abbrev pub part_behind : DiscPart → Whole → Executed
part_behind PreBreak w = list_opened (list.Discretionary PostBreak) w
part_behind PostBreak w = list_opened (list.Discretionary NoBreak) w
part_behind NoBreak w = on w

abbrev pub part_filled : DiscPart → List Node → Whole → Whole
part_filled part nodes w = record w { level = record w.level { nodes = part_last part nodes w.level.nodes } }

abbrev pub part_ended : DiscPart → Whole → Executed
part_ended part w = and_then (list_left w) (λ v. part_behind part (part_filled part (shown w.level.nodes) v))

-- the mark of the boxes that were made: a left and a right one, or a right one
abbrev pub box_at : Node-F HeadMark Node Boxed Discretionary → Boxed → HeadMark
box_at (InnerBox left) right = Both left right
box_at _ right = Right right

abbrev pub mark_of : List Node → Boxed → HeadMark
mark_of [] right = Right right
mark_of (left ∷ nodes) right = box_at (out-Node left) right

abbrev pub mark_box_placed : Bool → Boxed → Whole → Executed
mark_box_placed true box w = added (MarkNode (mark_of w.level.nodes box)) (left_level w)
mark_box_placed false box w = mark_box_opened true (with_node (BoxNode box) w)

abbrev pub list_ended_as : ListKind → Whole → Executed
list_ended_as (list.Box axis size context) w = packing axis size (box_placed context) w
list_ended_as list.Adjust w = adjust_ended w
list_ended_as list.Footnote w = packing Vertical Natural footnote_placed w
list_ended_as (list.Discretionary part) w = part_ended part w
list_ended_as (list.MarkBox is_last) w = packing Horizontal Natural (mark_box_placed is_last) w
list_ended_as kind w = stop GroupExtra w

-- the end of a list that has a group of its own; an open paragraph ends before
abbrev pub list_ended_in : Whole → Executed
list_ended_in w = list_ended_as w.level.kind w

unfoldable pub list_ended : Whole → Executed
list_ended w = and_then (paragraph_ended w) list_ended_in

-- a character of category 2
unfoldable pub end_group : Whole → Executed
end_group w = end_group_character list_ended w
