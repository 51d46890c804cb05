-- What the items of a list take up (The TeXbook, chapters 11, 12 and 21; tex.web, part 33). Lengths are in scaled points.
use Rattle.std.specs.Prelude.{ℕ, zero, suc, Bool, ◌==◌, List, [], ◌∷◌, ◌++◌, map, sum, max, if◌then◌else◌, Option, None, Some, ℤ, pos, ◌+ℤ◌, ◌-ℤ◌}
use Rattle.std.specs.Int.{int_max}
use Rattle.std.specs.List.{fold}
use Rattle.lb_base.specs.declared.glue.Order.{Order}
use Rattle.lb_base.specs.declared.glue.Order.TheVariants.{Finite, Fil, Fill, Filll}
use Rattle.lb_base.specs.declared.node.Axis.{Axis}
use Rattle.lb_base.specs.declared.node.Axis.TheVariants.{Horizontal, Vertical}
use Rattle.lb_base.specs.declared.node.Boxed.{Boxed, Boxed-F, out-Boxed, fold-Boxed}
use Rattle.lb_base.specs.declared.node.Discretionary.{Discretionary, Discretionary-F, out-Discretionary}
use Rattle.lb_base.specs.declared.node.HeadMark.{HeadMark, HeadMark-F}
use Rattle.lb_base.specs.declared.node.HeadMark.TheOpen.{Both, Right, Char, Lig, Kern, Glue, Disc, Rule, Boxed as InnerBox, Mark, Ins, Adjust}
use Rattle.lb_base.specs.declared.node.Node.{Node, Node-F, out-Node, fold-Node}

-- ---- what a list shows

-- the parts of a discretionary at which no line is broken
abbrev pub unbroken_parts_in : Node-F HeadMark Node Boxed Discretionary → Option (List Node)
unbroken_parts_in (Disc parts) = Some (out-Discretionary parts).no_break
unbroken_parts_in _ = None

abbrev pub unbroken_parts : Node → Option (List Node)
unbroken_parts node = unbroken_parts_in (out-Node node)

-- how many nodes have to be looked at to show a node: itself and, in a discretionary, what stands for it
abbrev pub weight_in : Node-F ℕ ℕ ℕ ℕ → ℕ
weight_in (Disc parts) = suc parts
weight_in _ = 1

abbrev pub weight_of : Node → ℕ
weight_of = fold-Node ℕ ℕ ℕ ℕ (λ _. 0) weight_in (λ _. 0) (λ parts. sum parts.no_break)

-- A discretionary at which no line is broken shows its third part in its place.
abbrev pub shown_within : ℕ → List Node → List Node
shown_within zero nodes = []
shown_within (suc left) [] = []
shown_within (suc left) (node ∷ nodes) = elim (unbroken_parts node) [ Some parts ↦ shown_within left (parts ++ nodes) | None ↦ node ∷ shown_within left nodes ]

-- the list with each discretionary replaced so, those inside the parts too
unfoldable pub shown : List Node → List Node
shown nodes = shown_within (sum (map weight_of nodes)) nodes

-- ---- sizes

-- A rule's size that is not given counts as nothing: it runs to the box.
abbrev pub given : Option ℤ → ℤ
given None = pos 0
given (Some length) = length

pub record Size : Type 0 where
  pub width : ℤ
  pub height : ℤ
  pub depth : ℤ

abbrev pub no_size : Size
no_size = record { width = pos 0; height = pos 0; depth = pos 0 }

-- Letters, rules and boxes have a size. Nothing else has one: penalties, notes, marks, footnotes and vertical material take
-- no room, and neither does a discretionary, in whose place its parts are to be shown.
abbrev pub size_in : Node-F HeadMark Node Boxed Discretionary → Size
size_in (Char code metrics font) = record { width = metrics.width; height = metrics.height; depth = metrics.depth }
size_in (Lig ligature) = record { width = ligature.metrics.width; height = ligature.metrics.height; depth = ligature.metrics.depth }
size_in (Rule size) = record { width = given size.width; height = given size.height; depth = given size.depth }
size_in (InnerBox box) = record { width = (out-Boxed box).width; height = (out-Boxed box).height; depth = (out-Boxed box).depth }
size_in _ = no_size

unfoldable pub size_of : Node → Size
size_of node = size_in (out-Node node)

-- kerns and glue are spaces along the list
abbrev pub space_in : Node-F HeadMark Node Boxed Discretionary → Option ℤ
space_in (Kern width origin) = Some width
space_in (Glue glue) = Some glue.width
space_in _ = None

unfoldable pub space_of : Node → Option ℤ
space_of node = space_in (out-Node node)

-- how far a box is down, or to the right
abbrev pub shift_in : Node-F HeadMark Node Boxed Discretionary → ℤ
shift_in (InnerBox box) = (out-Boxed box).shift
shift_in _ = pos 0

unfoldable pub shift_of : Node → ℤ
shift_of node = shift_in (out-Node node)

-- the room that a node takes along its list
unfoldable pub along : Axis → Node → ℤ
along Horizontal node = given (space_of node) +ℤ (size_of node).width
along Vertical node = given (space_of node) +ℤ ((size_of node).height +ℤ (size_of node).depth)

-- how far a node reaches above and below the baseline of a horizontal list, and to the right in a vertical one
abbrev pub reach_up : Node → ℤ
reach_up node = (size_of node).height -ℤ shift_of node

abbrev pub reach_down : Node → ℤ
reach_down node = (size_of node).depth +ℤ shift_of node

abbrev pub reach_right : Node → ℤ
reach_right node = (size_of node).width +ℤ shift_of node

-- ---- lists

-- the sum over a list, and the largest value, which is at least 0
abbrev pub total : (Node → ℤ) → List Node → ℤ
total f nodes = fold (λ so_far node. so_far +ℤ f node) (pos 0) nodes

abbrev pub largest : (Node → ℤ) → List Node → ℤ
largest f nodes = fold (λ so_far node. int_max so_far (f node)) (pos 0) nodes

-- Below a vertical list hangs the depth of its last letter, rule or box, unless a space stands behind that.
abbrev pub depth_past_in : ℤ → Node-F HeadMark Node Boxed Discretionary → ℤ
depth_past_in depth (Char code metrics font) = metrics.depth
depth_past_in depth (Lig ligature) = ligature.metrics.depth
depth_past_in depth (Rule size) = given size.depth
depth_past_in depth (InnerBox box) = (out-Boxed box).depth
depth_past_in depth (Kern width origin) = pos 0
depth_past_in depth (Glue glue) = pos 0
depth_past_in depth _ = depth

unfoldable pub depth_past : ℤ → Node → ℤ
depth_past depth node = depth_past_in depth (out-Node node)

abbrev pub last_depth : List Node → ℤ
last_depth nodes = fold depth_past (pos 0) nodes

-- the natural size of a list along it; what hangs below a vertical list is left out
unfoldable pub natural_size : Axis → List Node → ℤ
natural_size Horizontal nodes = total (along Horizontal) nodes
natural_size Vertical nodes = total (along Vertical) nodes -ℤ last_depth nodes

-- ---- stretch and shrink

abbrev pub place_of_order : Order → ℕ
place_of_order Finite = 0
place_of_order Fil = 1
place_of_order Fill = 2
place_of_order Filll = 3

abbrev pub same_order : Order → Order → Bool
same_order a b = place_of_order a == place_of_order b

abbrev pub stretch_in : Order → Node-F HeadMark Node Boxed Discretionary → ℤ
stretch_in order (Glue glue) = if same_order glue.stretch_order order then glue.stretch else pos 0
stretch_in order _ = pos 0

abbrev pub shrink_in : Order → Node-F HeadMark Node Boxed Discretionary → ℤ
shrink_in order (Glue glue) = if same_order glue.shrink_order order then glue.shrink else pos 0
shrink_in order _ = pos 0

-- how much of an order a node can stretch, and shrink
unfoldable pub stretch_of : Order → Node → ℤ
stretch_of order node = stretch_in order (out-Node node)

unfoldable pub shrink_of : Order → Node → ℤ
shrink_of order node = shrink_in order (out-Node node)

-- ---- how deep boxes nest

abbrev pub most : List ℕ → ℕ
most [] = 0
most (n ∷ ns) = max n (most ns)

abbrev pub mark_nesting : HeadMark-F ℕ ℕ ℕ ℕ → ℕ
mark_nesting (Both left right) = max left right
mark_nesting (Right right) = right

abbrev pub nesting_in : Node-F ℕ ℕ ℕ ℕ → ℕ
nesting_in (InnerBox box) = box
nesting_in (Disc parts) = parts
nesting_in (Mark mark) = mark
nesting_in (Ins footnote) = footnote
nesting_in (Adjust material) = most material
nesting_in _ = 0

abbrev pub box_nesting : Boxed-F ℕ ℕ ℕ ℕ → ℕ
box_nesting box = suc (most box.items)

abbrev pub parts_nesting : Discretionary-F ℕ ℕ ℕ ℕ → ℕ
parts_nesting parts = max (most parts.pre_break) (max (most parts.post_break) (most parts.no_break))

-- how many boxes stand inside one another in a node, and in a box, itself counted
abbrev pub nesting_of : Node → ℕ
nesting_of = fold-Node ℕ ℕ ℕ ℕ mark_nesting nesting_in box_nesting parts_nesting

abbrev pub nesting_of_box : Boxed → ℕ
nesting_of_box = fold-Boxed ℕ ℕ ℕ ℕ mark_nesting nesting_in box_nesting parts_nesting
