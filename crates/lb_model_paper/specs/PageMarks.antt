-- What the marks of a page have for the heads of pages (The TeXbook, chapter 23; tex.web, part 45, but that the marks in the boxes of
-- a page count as well).
use Rattle.std.specs.Prelude.{ℕ, zero, suc, List, [], ◌∷◌, map, flat_map, Option, None, Some}
use Rattle.std.specs.Option.{option_or}
use Rattle.lb_base.specs.declared.node.Boxed.{Boxed, Boxed-F, out-Boxed}
use Rattle.lb_base.specs.declared.node.Discretionary.{Discretionary, Discretionary-F, out-Discretionary}
use Rattle.lb_base.specs.declared.node.HeadMark.{HeadMark, HeadMark-F, out-HeadMark}
use Rattle.lb_base.specs.declared.node.HeadMark.TheOpen.{Both, Right, Boxed as InnerBox, Disc, Mark}
use Rattle.lb_base.specs.declared.node.Node.{Node, Node-F, out-Node, fold-Node}
use Rattle.lb_model_paper.specs.Nodes.{most}

-- ---- the marks of a list

-- The marks of a node, where those of the lists in it are given: itself, those of a box's items, and those of what stands for a
-- discretionary at which no line is broken. Nothing that a footnote, a mark or vertical material holds counts.
abbrev pub marks_in : (List Node → List HeadMark) → Node-F HeadMark Node Boxed Discretionary → List HeadMark
marks_in inner (Mark mark) = mark ∷ []
marks_in inner (InnerBox box) = inner (out-Boxed box).items
marks_in inner (Disc parts) = inner (out-Discretionary parts).no_break
marks_in inner _ = []

unfoldable pub marks_of_node : (List Node → List HeadMark) → Node → List HeadMark
marks_of_node inner node = marks_in inner (out-Node node)

-- those of nodes, one node after another, and of the lists in them down to some depth
unfoldable pub marks_down : ℕ → List Node → List HeadMark
marks_down zero nodes = []
marks_down (suc left) nodes = flat_map (marks_of_node (marks_down left)) nodes

-- how many lists stand inside one another in a node whose marks count
abbrev pub levels_in : Node-F ℕ ℕ ℕ ℕ → ℕ
levels_in (InnerBox box) = box
levels_in (Disc parts) = parts
levels_in _ = 0

abbrev pub box_levels : Boxed-F ℕ ℕ ℕ ℕ → ℕ
box_levels box = suc (most box.items)

abbrev pub parts_levels : Discretionary-F ℕ ℕ ℕ ℕ → ℕ
parts_levels parts = suc (most parts.no_break)

abbrev pub levels_of : Node → ℕ
levels_of = fold-Node ℕ ℕ ℕ ℕ (λ _. 0) levels_in box_levels parts_levels

-- and in a list, itself counted
abbrev pub levels : List Node → ℕ
levels nodes = suc (most (map levels_of nodes))

-- the marks of a list and of all lists in it, in their order
unfoldable pub head_marks : List Node → List HeadMark
head_marks nodes = marks_down (levels nodes) nodes

-- ---- what marks have

abbrev pub right_in : HeadMark-F HeadMark Node Boxed Discretionary → Boxed
right_in (Both left right) = right
right_in (Right right) = right

abbrev pub left_in : HeadMark-F HeadMark Node Boxed Discretionary → Option Boxed
left_in (Both left right) = Some left
left_in (Right right) = None

-- what odd pages show by a mark, and what even pages do
unfoldable pub right_of : HeadMark → Boxed
right_of mark = right_in (out-HeadMark mark)

unfoldable pub left_of : HeadMark → Option Boxed
left_of mark = left_in (out-HeadMark mark)

-- every mark has a right part
abbrev pub first_right : List HeadMark → Option Boxed
first_right [] = None
first_right (mark ∷ marks) = Some (right_of mark)

abbrev pub last_right : List HeadMark → Option Boxed
last_right [] = None
last_right (mark ∷ marks) = option_or (last_right marks) (Some (right_of mark))

-- of the marks that have a left part
abbrev pub last_left : List HeadMark → Option Boxed
last_left [] = None
last_left (mark ∷ marks) = option_or (last_left marks) (left_of mark)

-- ---- heads

-- what heads show on even pages, and on odd ones
pub record HeadBoxes : Type 0 where
  pub left : Option Boxed
  pub right : Option Boxed

-- In the head of a page stand the last left and the first right part of its marks, each else what is carried from the pages before it.
abbrev pub head_boxes : HeadBoxes → List Node → HeadBoxes
head_boxes carried items = record { left = option_or (last_left (head_marks items)) carried.left; right = option_or (first_right (head_marks items)) carried.right }

-- what the pages behind it carry then: the last left and the last right part
abbrev pub carried_past : HeadBoxes → List Node → HeadBoxes
carried_past carried items = record { left = option_or (last_left (head_marks items)) carried.left; right = option_or (last_right (head_marks items)) carried.right }
