-- The lines of a paragraph as a vertical list (The TeXbook, chapter 14; tex.web, part 39), and the glue between lines (chapter 12).
-- Lengths are in scaled points.
use Rattle.std.specs.Prelude.{ℕ, zero, suc, ◌+◌, ◌<◌, ◌≤◌, Bool, true, false, ◌==◌, List, [], ◌∷◌, ◌++◌, length, if◌then◌else◌, Result, Ok, Err, ℤ, pos, neg_ℤ, int_lt, int_le, ◌+ℤ◌, ◌-ℤ◌}
use Rattle.std.specs.Int.{int_max, int_min}
use Rattle.lb_base.specs.declared.fault.Kind.{Kind}
use Rattle.lb_base.specs.declared.fault.Kind.TheVariants.{DimenTooLarge}
use Rattle.lb_base.specs.declared.glue.Glue.{Glue as GlueSize}
use Rattle.lb_base.specs.declared.glue.Target.TheVariants.{To}
use Rattle.lb_base.specs.declared.node.Axis.TheVariants.{Horizontal}
use Rattle.lb_base.specs.declared.node.Boxed.{Boxed, out-Boxed}
use Rattle.lb_base.specs.declared.node.Discretionary.{Discretionary}
use Rattle.lb_base.specs.declared.node.HeadMark.{HeadMark}
use Rattle.lb_base.specs.declared.node.HeadMark.TheOpen.{Penalty, Boxed as InnerBox, Ins, Adjust}
use Rattle.lb_base.specs.declared.node.Node.{Node, Node-F, out-Node, roll-Node}
use Rattle.lb_model_paper.specs.Boxes.{packs}
use Rattle.lb_model_paper.specs.Breaks.{glue_node, is_disc_at, line_items}
use Rattle.lb_model_paper.specs.Dvi.{is_small, is_zero}
use Rattle.lb_model_paper.specs.declared.paragraph.BreakEnd.{BreakEnd}
use Rattle.lb_model_paper.specs.declared.paragraph.BreakRules.{BreakRules}
use Rattle.lb_model_paper.specs.declared.paragraph.LineRules.{LineRules}
use Rattle.lb_model_paper.specs.declared.paragraph.Shape.{Shape}

-- ---- what moves out of a line

-- footnotes and vertical material leave the line: a footnote as it is, material as the nodes that it is made of
abbrev pub moved_in : Node → Node-F HeadMark Node Boxed Discretionary → List Node
moved_in node (Ins footnote) = node ∷ []
moved_in node (Adjust material) = material
moved_in node _ = []

unfoldable pub moved_of : Node → List Node
moved_of node = moved_in node (out-Node node)

abbrev pub stays_in : Node-F HeadMark Node Boxed Discretionary → Bool
stays_in (Ins footnote) = false
stays_in (Adjust material) = false
stays_in _ = true

unfoldable pub stays : Node → Bool
stays node = stays_in (out-Node node)

abbrev pub staying : List Node → List Node
staying [] = []
staying (node ∷ nodes) = if stays node then node ∷ staying nodes else staying nodes

abbrev pub moving : List Node → List Node
moving [] = []
moving (node ∷ nodes) = moved_of node ++ moving nodes

-- ---- penalties between lines

-- a sum of penalties is held within 32 bits
abbrev pub held_penalty : ℤ → ℤ
held_penalty penalty = int_max (neg_ℤ (pos 2147483648)) (int_min penalty (pos 2147483647))

-- behind a line: more after the first one, before the last one, and after one that ends in a discretionary
abbrev pub penalty_behind : BreakRules → Bool → Bool → Bool → ℤ
penalty_behind rules is_first is_next_last is_broken =
    held_penalty (rules.interline_penalty
    +ℤ ((if is_first then rules.club_penalty else pos 0)
    +ℤ ((if is_next_last then rules.widow_penalty else pos 0)
    +ℤ (if is_broken then rules.broken_penalty else pos 0))))

-- it stands where it is not 0
abbrev pub penalty_nodes : ℤ → List Node
penalty_nodes penalty = if is_zero penalty then [] else roll-Node (Penalty penalty) ∷ []

-- between a line and so many lines behind it
abbrev pub penalty_between : BreakRules → Bool → ℕ → Bool → ℤ
penalty_between rules is_first zero is_broken = pos 0
penalty_between rules is_first (suc left) is_broken = penalty_behind rules is_first (left == 0) is_broken

-- ---- the vertical list

-- of two faults a size that is too large counts, and else the first
abbrev pub is_of_size : Kind → Bool
is_of_size DimenTooLarge = true
is_of_size _ = false

abbrev pub worse : Kind → Kind → Kind
worse first other = if is_of_size first then first else if is_of_size other then other else first

-- two lists one behind the other, or why there are none
abbrev pub joined : Result (List Node) Kind → Result (List Node) Kind → Result (List Node) Kind
joined (Ok nodes) (Ok more) = Ok (nodes ++ more)
joined (Ok nodes) (Err kind) = Err kind
joined (Err kind) (Ok more) = Err kind
joined (Err kind) (Err other) = Err (worse kind other)

abbrev pub boxed_line : Result Boxed Kind → List Node → Result (List Node) Kind
boxed_line (Ok box) behind = Ok (roll-Node (InnerBox box) ∷ behind)
boxed_line (Err kind) behind = Err kind

-- a line of these items as a box, and what moves out of it
abbrev pub set_items : ℤ → List Node → Result (List Node) Kind
set_items width items = boxed_line (packs Horizontal (staying items) (To width)) (moving items)

-- the line from break i to break j, before so many lines; the first line is that from the start
unfoldable pub set_line : Shape → List Node → ℕ → ℕ → ℕ → Result (List Node) Kind
set_line shape nodes i j left =
    joined (set_items shape.width (line_items shape nodes i j)) (Ok (penalty_nodes (penalty_between shape.rules (i == 0) left (is_disc_at nodes j))))

-- the lines from break i on
abbrev pub lines_from : Shape → List Node → ℕ → List BreakEnd → Result (List Node) Kind
lines_from shape nodes i [] = Ok []
lines_from shape nodes i (end ∷ ends) =
    joined (set_line shape nodes i (end.item + 1) (length ends)) (lines_from shape nodes (end.item + 1) ends)

-- the lines that end at these items, or why there are none
unfoldable pub lines_of : Shape → List Node → List BreakEnd → Result (List Node) Kind
lines_of shape nodes ends = lines_from shape nodes 0 ends

-- the ends are items of the list, and rise
abbrev pub AreEnds : List Node → ℕ → List BreakEnd → Type 0
AreEnds nodes i [] = Unit {0}
AreEnds nodes i (end ∷ ends) = (i ≤ end.item) × (end.item < length nodes) × AreEnds nodes (end.item + 1) ends

-- ---- the glue between lines

-- the glue between the depth so far and a box of a height: that of the baselines, or where it would be below the limit that of lines
abbrev pub glue_between : LineRules → ℤ → ℤ → GlueSize
glue_between rules prev height =
    let width : ℤ = rules.baselineskip.width -ℤ prev -ℤ height in
    if int_lt width rules.lineskiplimit then rules.lineskip else record rules.baselineskip { width = width }

abbrev pub glue_nodes : GlueSize → Result (List Node) Kind
glue_nodes glue = if is_small glue.width then Ok (glue_node glue ∷ []) else Err DimenTooLarge

-- what stands before a box of a height: nothing where the depth so far is −1000pt or less
unfoldable pub interline : LineRules → ℤ → ℤ → Result (List Node) Kind
interline rules prev height = if int_le prev (neg_ℤ (pos 65536000)) then Ok [] else glue_nodes (glue_between rules prev height)

-- a list with one more box, or why there is none
abbrev pub behind_glue : List Node → Boxed → Result (List Node) Kind → Result (List Node) Kind
behind_glue nodes box (Ok before) = Ok (nodes ++ before ++ roll-Node (InnerBox box) ∷ [])
behind_glue nodes box (Err kind) = Err kind

unfoldable pub appended : LineRules → List Node → Boxed → ℤ → Result (List Node) Kind
appended rules nodes box prev = behind_glue nodes box (interline rules prev (out-Boxed box).height)

-- the depth so far behind a box: its own
abbrev pub depth_behind : Boxed → Result (List Node) Kind → Result ℤ Kind
depth_behind box (Ok nodes) = Ok (out-Boxed box).depth
depth_behind box (Err kind) = Err kind

unfoldable pub new_depth : LineRules → Boxed → ℤ → Result ℤ Kind
new_depth rules box prev = depth_behind box (interline rules prev (out-Boxed box).height)
