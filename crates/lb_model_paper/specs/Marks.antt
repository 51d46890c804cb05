-- The marks of a page: the characters and rules of a box and of all boxes in it, in the order of the box, each where it stands
-- (The TeXbook, chapter 11; tex.web, part 32). Lengths are in scaled points.
use Rattle.std.specs.Prelude.{ℕ, zero, suc, ◌+◌, Bool, ◌&&◌, List, [], ◌∷◌, ◌++◌, Option, None, Some, Result, Ok, Err, if◌then◌else◌, ℤ, pos, negsuc, ◌+ℤ◌, ◌-ℤ◌, int_le}
use Rattle.std.specs.List.{list_all}
use Rattle.lb_base.specs.declared.fault.Kind.{Kind}
use Rattle.lb_base.specs.declared.fault.Kind.TheVariants.{DimenTooLarge}
use Rattle.lb_base.specs.declared.node.Axis.{Axis}
use Rattle.lb_base.specs.declared.node.Axis.TheVariants.{Horizontal, Vertical}
use Rattle.lb_base.specs.declared.node.Boxed.{Boxed, out-Boxed}
use Rattle.lb_base.specs.declared.node.Discretionary.{Discretionary}
use Rattle.lb_base.specs.declared.node.HeadMark.{HeadMark}
use Rattle.lb_base.specs.declared.node.HeadMark.TheOpen.{Boxed as InnerBox, Char as CharLayer, Lig as LigLayer, Rule as RuleLayer}
use Rattle.lb_base.specs.declared.node.Node.{Node, Node-F, out-Node}
use Rattle.lb_base.specs.declared.node.RuleSize.{RuleSize}
use Rattle.lb_base.specs.declared.page.Mark.{Mark}
use Rattle.lb_base.specs.declared.page.Mark.TheVariants.{Char, Rule}
use Rattle.lb_base.specs.declared.page.PageCode.{PageCode}
use Rattle.lb_model_paper.specs.Boxes.{place_of}
use Rattle.lb_model_paper.specs.Dvi.{is_small}
use Rattle.lb_model_paper.specs.Nodes.{given, nesting_of_box, shift_of, Size, size_of}

-- ---- places

-- how far to the right of the page's upper left corner, and how far below it
pub record Spot : Type 0 where
  pub h : ℤ
  pub v : ℤ

-- Where so far along its list an item of a box begins, whose baseline begins at a spot: a horizontal list lies on the baseline,
-- and a vertical one begins at the top of its box.
abbrev pub spot_along : Axis → ℤ → Spot → ℤ → Spot
spot_along Horizontal height spot along = record { h = spot.h +ℤ along; v = spot.v }
spot_along Vertical height spot along = record { h = spot.h; v = (spot.v -ℤ height) +ℤ along }

-- where the item of this number begins
abbrev pub item_spot : Boxed → Spot → ℕ → Spot
item_spot box spot number = spot_along (out-Boxed box).axis (out-Boxed box).height spot (place_of box number)

-- where the baseline of an item begins that begins at a spot: a box is shifted down in a horizontal list, and to the right in a
-- vertical one, in which the item hangs from where it begins
abbrev pub baseline_of : Axis → Spot → Node → Spot
baseline_of Horizontal spot node = record { h = spot.h; v = spot.v +ℤ shift_of node }
baseline_of Vertical spot node = record { h = spot.h +ℤ shift_of node; v = spot.v +ℤ (size_of node).height }

-- ---- marks

-- what is given, or the size of the box
abbrev pub or_box : ℤ → Option ℤ → ℤ
or_box length None = length
or_box length (Some given) = given

-- a rule runs to its box across the list where its size is open; along the list that is nothing
abbrev pub rule_in : Axis → Boxed → RuleSize → Size
rule_in Horizontal box rule = record { width = given rule.width; height = or_box (out-Boxed box).height rule.height; depth = or_box (out-Boxed box).depth rule.depth }
rule_in Vertical box rule = record { width = or_box (out-Boxed box).width rule.width; height = given rule.height; depth = given rule.depth }

-- the mark of a rule is at its lower left corner
abbrev pub rule_mark : Spot → Size → Mark
rule_mark spot size = Rule spot.h (spot.v +ℤ size.depth) (size.height +ℤ size.depth) size.width

-- The marks of an item whose baseline begins at a spot, in a box: those of a box that stands in it are given.
abbrev pub layer_marks : (Boxed → Spot → List Mark) → Boxed → Spot → Node-F HeadMark Node Boxed Discretionary → List Mark
layer_marks inner box spot (CharLayer code metrics font) = Char spot.h spot.v font code metrics.width ∷ []
layer_marks inner box spot (LigLayer ligature) = Char spot.h spot.v ligature.font ligature.code ligature.metrics.width ∷ []
layer_marks inner box spot (RuleLayer size) = rule_mark spot (rule_in (out-Boxed box).axis box size) ∷ []
layer_marks inner box spot (InnerBox held) = inner held spot
layer_marks inner box spot _ = []

-- those of an item that begins at a spot
unfoldable pub node_marks : (Boxed → Spot → List Mark) → Boxed → Spot → Node → List Mark
node_marks inner box spot node = layer_marks inner box (baseline_of (out-Boxed box).axis spot node) (out-Node node)

-- those of items with their numbers, one item after another
unfoldable pub items_marks : (ℕ → Node → List Mark) → ℕ → List Node → List Mark
items_marks marks number [] = []
items_marks marks number (node ∷ nodes) = marks number node ++ items_marks marks (number + 1) nodes

-- those of a box whose baseline begins at a spot, and of the boxes in it down to some depth
unfoldable pub marks_within : ℕ → Boxed → Spot → List Mark
marks_within zero box spot = []
marks_within (suc left) box spot = items_marks (λ number node. node_marks (marks_within left) box (item_spot box spot number) node) 0 (out-Boxed box).items

-- and of all boxes in it
unfoldable pub marks_at : Boxed → Spot → List Mark
marks_at box spot = marks_within (nesting_of_box box) box spot

-- The box of a page has its upper left corner at the page's.
abbrev pub page_spot : Boxed → Spot
page_spot box = record { h = pos 0; v = (out-Boxed box).height }

abbrev pub marks_of : Boxed → List Mark
marks_of box = marks_at box (page_spot box)

-- ---- page codes

abbrev pub is_length : ℤ → Bool
is_length z = int_le (negsuc 2147483647) z && int_le z (pos 2147483647)

-- The place of a mark and the right end of a character are below 2^30 in size, and the height of a rule is a length.
abbrev pub is_small_mark : Mark → Bool
is_small_mark (Char h v font code width) = is_small h && (is_small v && is_small (h +ℤ width))
is_small_mark (Rule h v height width) = is_small h && (is_small v && is_length height)

-- the marks, if all are small
abbrev pub small_marks : List Mark → Result (List Mark) Kind
small_marks marks = if list_all is_small_mark marks then Ok marks else Err DimenTooLarge

unfoldable pub marks_or_fault : Boxed → Result (List Mark) Kind
marks_or_fault box = small_marks (marks_of box)

-- the code of the page with this number and box
abbrev pub code_of_page : ℤ → Boxed → List Mark → PageCode
code_of_page number box marks = record { number = number; marks = marks; height = (out-Boxed box).height; width = (out-Boxed box).width }

unfoldable pub page_code_or_fault : ℤ → Boxed → Result PageCode Kind
page_code_or_fault number box = if list_all is_small_mark (marks_of box) then Ok (code_of_page number box (marks_of box)) else Err DimenTooLarge
