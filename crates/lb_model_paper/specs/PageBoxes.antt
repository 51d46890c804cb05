-- The box of a page: its head, its body, its footnotes and its foot (source2e on the output routine; lengths of this project's own).
-- Lengths are in scaled points.
use Rattle.std.specs.Prelude.{◌%◌, ◌==◌, Bool, true, ◌&&◌, List, [], ◌∷◌, ◌++◌, map, if◌then◌else◌, Option, None, Some, Result, Ok, Err, ℤ, pos, neg_ℤ, nat_abs, nat_lt, ◌+ℤ◌}
use Rattle.lb_base.specs.declared.fault.Kind.{Kind}
use Rattle.lb_base.specs.declared.fault.Kind.TheVariants.{DepthLimit, DimenTooLarge}
use Rattle.lb_base.specs.declared.glue.Order.TheVariants.{Finite}
use Rattle.lb_base.specs.declared.glue.Target.TheVariants.{To}
use Rattle.lb_base.specs.declared.node.Axis.TheVariants.{Horizontal, Vertical}
use Rattle.lb_base.specs.declared.node.Boxed.{Boxed, out-Boxed, roll-Boxed}
use Rattle.lb_base.specs.declared.node.Discretionary.{Discretionary}
use Rattle.lb_base.specs.declared.node.HeadMark.{HeadMark}
use Rattle.lb_base.specs.declared.node.HeadMark.TheOpen.{Ins}
use Rattle.lb_base.specs.declared.node.KernOrigin.TheVariants.{Explicit}
use Rattle.lb_base.specs.declared.node.Node.{Node, Node-F, out-Node, Boxed as BoxNode, Kern as KernNode, Rule as RuleNode}
use Rattle.lb_model_paper.specs.declared.pages.HeadFoot.{HeadFoot}
use Rattle.lb_model_paper.specs.declared.pages.HeadFoot.TheVariants.{Neither, Foot, Head}
use Rattle.lb_model_paper.specs.declared.pages.PageLengths.{PageLengths}
use Rattle.lb_model_paper.specs.declared.pages.PageLook.{PageLook}
use Rattle.lb_model_paper.specs.declared.pages.PagePart.{PagePart}
use Rattle.lb_model_paper.specs.Boxes.{nesting_of_list, packs}
use Rattle.lb_model_paper.specs.Dvi.{is_small}
use Rattle.lb_model_paper.specs.Nodes.{shown, total}
use Rattle.lb_model_paper.specs.Pages.{fil_glue, foot_size, is_some_left}

-- ---- head and foot

abbrev pub is_odd : ℤ → Bool
is_odd number = nat_abs number % 2 == 1

-- what stands at the left of a page
abbrev pub margin_of : ℤ → PageLengths → ℤ
margin_of number lengths = if is_odd number then lengths.oddsidemargin else lengths.evensidemargin

abbrev pub mark_nodes : Option Boxed → List Node
mark_nodes None = []
mark_nodes (Some box) = BoxNode box ∷ []

-- On odd pages the head has the right mark at its left end and the number at its right, on even pages the number and then the left mark.
abbrev pub head_nodes : PageLook → List Node
head_nodes look =
    if is_odd look.number then mark_nodes look.right ++ fil_glue ∷ look.digits
    else look.digits ++ fil_glue ∷ mark_nodes look.left

-- the number in the middle
abbrev pub foot_nodes : PageLook → List Node
foot_nodes look = fil_glue ∷ (look.digits ++ fil_glue ∷ [])

abbrev pub some_box : Result Boxed Kind → Result (Option Boxed) Kind
some_box (Ok box) = Ok (Some box)
some_box (Err kind) = Err kind

-- the head or the foot of a page, if it has one
abbrev pub running_in : HeadFoot → PageLook → Result (Option Boxed) Kind
running_in Neither look = Ok None
running_in Foot look = some_box (packs Horizontal (shown (foot_nodes look)) (To look.lengths.textwidth))
running_in Head look = some_box (packs Horizontal (shown (head_nodes look)) (To look.lengths.textwidth))

abbrev pub running_box : PageLook → Result (Option Boxed) Kind
running_box look = running_in look.style look

-- ---- the items of the page's box

abbrev pub kern : ℤ → Node
kern width = KernNode width Explicit

-- a box that is so far to the right
abbrev pub moved : ℤ → Boxed → Boxed
moved shift box = roll-Boxed (record {
  axis = (out-Boxed box).axis;
  items = (out-Boxed box).items;
  width = (out-Boxed box).width;
  height = (out-Boxed box).height;
  depth = (out-Boxed box).depth;
  shift = shift;
  glue_set = (out-Boxed box).glue_set;
})

abbrev pub box_at : ℤ → Boxed → Node
box_at shift box = BoxNode (moved shift box)

-- the head's baseline stands where the page is when it is reached
abbrev pub head_items : ℤ → Option Boxed → List Node
head_items margin None = []
head_items margin (Some box) = kern (neg_ℤ (out-Boxed box).height) ∷ box_at margin box ∷ kern (neg_ℤ (out-Boxed box).depth) ∷ []

-- a rule of 138pt by 0.4pt
abbrev pub feet_rule : Boxed
feet_rule = roll-Boxed (record {
  axis = Horizontal;
  items = RuleNode (record { width = Some (pos 9043968); height = Some (pos 26214); depth = Some (pos 0) }) ∷ [];
  width = pos 9043968;
  height = pos 26214;
  depth = pos 0;
  shift = pos 0;
  glue_set = record { excess = pos 0; order = Finite };
})

abbrev pub foot_in : ℤ → Node → Node-F HeadMark Node Boxed Discretionary → Node
foot_in margin node (Ins box) = box_at margin box
foot_in margin node _ = node

-- a footnote's box
unfoldable pub foot_at : ℤ → Node → Node
foot_at margin node = foot_in margin node (out-Node node)

-- behind 9pt, whose last 3pt hold the rule at their top, the footnotes
abbrev pub feet_items : ℤ → List Node → List Node
feet_items margin [] = []
feet_items margin (first ∷ rest) = kern (pos 393216) ∷ box_at margin feet_rule ∷ kern (pos 170394) ∷ map (foot_at margin) (first ∷ rest)

-- how far below the top of the body the footnotes end
abbrev pub used_by : ℤ → List Node → ℤ
used_by goal feet = goal +ℤ (if is_some_left feet then pos 589824 +ℤ total foot_size feet else pos 0)

-- the foot's baseline is `\textheight` and `\footskip` below the top of the body
abbrev pub foot_items : PageLengths → ℤ → ℤ → Option Boxed → List Node
foot_items lengths margin used None = []
foot_items lengths margin used (Some box) =
    kern (neg_ℤ used) ∷ kern lengths.textheight ∷ kern lengths.footskip ∷ kern (neg_ℤ (out-Boxed box).height) ∷ box_at margin box ∷ []

abbrev pub head_of : HeadFoot → Option Boxed → Option Boxed
head_of Head running = running
head_of _ running = None

abbrev pub foot_of : HeadFoot → Option Boxed → Option Boxed
foot_of Foot running = running
foot_of _ running = None

unfoldable pub page_items : PageLook → ℤ → List Node → Boxed → Option Boxed → List Node
page_items look goal feet body running =
    let margin : ℤ = margin_of look.number look.lengths in
    kern look.lengths.topmargin ∷ kern look.lengths.headheight ∷ (head_items margin (head_of look.style running)
    ++ kern look.lengths.headsep ∷ box_at margin body ∷ (feet_items margin feet
    ++ foot_items look.lengths margin (used_by goal feet) (foot_of look.style running)))

-- ---- limits

-- the sums of a length and each of these behind it are below 2^30 in size
abbrev pub are_small_behind : ℤ → List ℤ → Bool
are_small_behind sum [] = true
are_small_behind sum (length ∷ lengths) = is_small (sum +ℤ length) && are_small_behind (sum +ℤ length) lengths

abbrev pub feet_lengths : List Node → List ℤ
feet_lengths [] = []
feet_lengths (first ∷ rest) = pos 589824 ∷ map foot_size (first ∷ rest)

abbrev pub page_height : PageLengths → ℤ
page_height lengths = lengths.headheight +ℤ (lengths.headsep +ℤ (lengths.textheight +ℤ lengths.footskip))

-- the lengths down a page, and its height
unfoldable pub are_small_heights : PageLengths → ℤ → List Node → Bool
are_small_heights lengths goal feet =
    are_small_behind (pos 0) (lengths.topmargin ∷ lengths.headheight ∷ lengths.headsep ∷ goal ∷ (feet_lengths feet ++ lengths.footskip ∷ []))
    && is_small (page_height lengths)

-- ---- the page's box

-- a fault of two, of which `DimenTooLarge` comes first
abbrev pub worse : Kind → Kind → Kind
worse _ DimenTooLarge = DimenTooLarge
worse kind _ = kind

abbrev pub both : Result Boxed Kind → Result (Option Boxed) Kind → Result (Boxed × Option Boxed) Kind
both (Ok body) (Ok running) = Ok (body, running)
both (Ok body) (Err kind) = Err kind
both (Err kind) (Ok running) = Err kind
both (Err kind) (Err other) = Err (worse kind other)

abbrev pub boxed_page : PageLook → List Node → Boxed
boxed_page look items = roll-Boxed (record {
  axis = Vertical;
  items = items;
  width = look.lengths.textwidth;
  height = page_height look.lengths;
  depth = pos 0;
  shift = pos 0;
  glue_set = record { excess = pos 0; order = Finite };
})

-- at most 500 boxes stand inside one another
abbrev pub page_boxed : PageLook → ℤ → List Node → Result (Boxed × Option Boxed) Kind → Result Boxed Kind
page_boxed look goal feet (Err kind) = Err kind
page_boxed look goal feet (Ok boxes) =
    if nat_lt 500 (nesting_of_list (page_items look goal feet boxes.0 boxes.1)) then Err DepthLimit
    else Ok (boxed_page look (page_items look goal feet boxes.0 boxes.1))

-- the page's box, or why there is none; its body is set to its goal
unfoldable pub page_box_of : PagePart → PageLook → Result Boxed Kind
page_box_of part look =
    if are_small_heights look.lengths part.goal part.feet then
    page_boxed look part.goal part.feet (both (packs Vertical (shown part.items) (To part.goal)) (running_box look))
    else Err DimenTooLarge
