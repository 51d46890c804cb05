-- Where pages end (The TeXbook, chapter 15; tex.web, part 45; whole footnotes are moved to the page on which they stand).
-- Lengths are in scaled points.
use Rattle.std.specs.Prelude.{ℕ, zero, suc, Bool, true, false, not, ◌&&◌, ◌||◌, List, [], ◌∷◌, ◌++◌, length, take, drop, filter, slice_get, if◌then◌else◌, Option, None, Some, option_map, Result, Ok, Err, ℤ, pos, neg_ℤ, int_lt, int_le, ◌+ℤ◌, ◌-ℤ◌}
use Rattle.std.specs.Int.{int_max, int_min, is_negative}
use Rattle.std.specs.List.{fold}
use Rattle.lb_base.specs.Badness.{badness_of}
use Rattle.lb_base.specs.declared.fault.Kind.{Kind}
use Rattle.lb_base.specs.declared.fault.Kind.TheVariants.{DimenTooLarge}
use Rattle.lb_base.specs.declared.glue.Order.{Order}
use Rattle.lb_base.specs.declared.glue.Order.TheVariants.{Finite, Fil, Fill, Filll}
use Rattle.lb_base.specs.declared.node.Axis.TheVariants.{Vertical}
use Rattle.lb_base.specs.declared.node.Boxed.{Boxed, out-Boxed}
use Rattle.lb_base.specs.declared.node.Discretionary.{Discretionary}
use Rattle.lb_base.specs.declared.node.HeadMark.{HeadMark}
use Rattle.lb_base.specs.declared.node.HeadMark.TheOpen.{Kern, Glue, Penalty, Rule, Boxed as InnerBox, Ins}
use Rattle.lb_base.specs.declared.node.KernOrigin.{KernOrigin}
use Rattle.lb_base.specs.declared.node.KernOrigin.TheVariants.{Font, Explicit}
use Rattle.lb_base.specs.declared.node.Node.{Node, Node-F, out-Node, Kern as KernNode, Glue as GlueNode, Penalty as PenaltyNode}
use Rattle.lb_model_paper.specs.declared.pages.Cost.{Cost}
use Rattle.lb_model_paper.specs.declared.pages.Cost.TheVariants.{Number, Awful}
use Rattle.lb_model_paper.specs.declared.pages.PagePart.{PagePart}
use Rattle.lb_model_paper.specs.declared.pages.PageRules.{PageRules}
use Rattle.lb_model_paper.specs.Boxes.{are_small_in, fronts_pass}
use Rattle.lb_model_paper.specs.Dvi.{is_small, is_zero}
use Rattle.lb_model_paper.specs.Nodes.{along, largest, reach_right, shrink_of, size_of, stretch_of, total}

-- ---- items

-- Glue, penalties and kerns go at the top of a page; a kern of a font does not.
abbrev pub is_explicit : KernOrigin → Bool
is_explicit Explicit = true
is_explicit Font = false

abbrev pub discards_in : Node-F HeadMark Node Boxed Discretionary → Bool
discards_in (Glue glue) = true
discards_in (Penalty penalty) = true
discards_in (Kern width origin) = is_explicit origin
discards_in _ = false

unfoldable pub is_discardable : Node → Bool
is_discardable node = discards_in (out-Node node)

abbrev pub is_block_in : Node-F HeadMark Node Boxed Discretionary → Bool
is_block_in (Rule size) = true
is_block_in (InnerBox box) = true
is_block_in _ = false

-- whether a node is a box or a rule
unfoldable pub is_block : Node → Bool
is_block node = is_block_in (out-Node node)

abbrev pub is_foot_in : Node-F HeadMark Node Boxed Discretionary → Bool
is_foot_in (Ins box) = true
is_foot_in _ = false

-- whether a node is a footnote
unfoldable pub is_foot : Node → Bool
is_foot node = is_foot_in (out-Node node)

abbrev pub foot_size_in : Node-F HeadMark Node Boxed Discretionary → ℤ
foot_size_in (Ins box) = (out-Boxed box).height +ℤ (out-Boxed box).depth
foot_size_in _ = pos 0

-- the height and depth of a footnote; nothing else has room at the foot
unfoldable pub foot_size : Node → ℤ
foot_size node = foot_size_in (out-Node node)

-- ---- what stands on a page

-- the discardables at a page's top go
abbrev pub without_top : List Node → List Node
without_top [] = []
without_top (node ∷ nodes) = if is_discardable node then without_top nodes else node ∷ nodes

-- the glue before the first box or rule: it makes up the height of that to `\topskip`
abbrev pub top_width : PageRules → Node → ℤ
top_width rules node = int_max (rules.topskip.width -ℤ (size_of node).height) (pos 0)

abbrev pub top_glue : PageRules → Node → Node
top_glue rules node = GlueNode (record {
  width = top_width rules node;
  stretch = rules.topskip.stretch;
  stretch_order = rules.topskip.stretch_order;
  shrink = rules.topskip.shrink;
  shrink_order = rules.topskip.shrink_order;
})

abbrev pub with_top_glue : PageRules → List Node → List Node
with_top_glue rules [] = []
with_top_glue rules (node ∷ nodes) = if is_block node then top_glue rules node ∷ node ∷ nodes else node ∷ with_top_glue rules nodes

-- these items of a list as they stand on a page
unfoldable pub on_page : PageRules → List Node → List Node
on_page rules nodes = with_top_glue rules (without_top nodes)

-- ---- the total and the goal

-- the depth of the last box or rule, whatever stands behind it
abbrev pub last_block_depth : List Node → Option ℤ
last_block_depth nodes = fold (λ depth node. if is_block node then Some (size_of node).depth else depth) None nodes

-- it hangs below the page's bottom, but at most by `\maxdepth`
abbrev pub hangs : PageRules → Option ℤ → ℤ
hangs rules None = pos 0
hangs rules (Some depth) = int_min depth rules.maxdepth

abbrev pub hanging : PageRules → List Node → ℤ
hanging rules page = hangs rules (last_block_depth page)

-- the natural height of what stands on a page, what hangs below it left out
abbrev pub page_total : PageRules → List Node → ℤ
page_total rules page = total (along Vertical) page -ℤ hanging rules page

abbrev pub has_foot : List Node → Bool
has_foot page = fold (λ so_far node. so_far || is_foot node) false page

-- the room of the footnotes, and of 9pt before them where there are any
abbrev pub feet_room : List Node → ℤ
feet_room page = if has_foot page then pos 589824 +ℤ total foot_size page else pos 0

abbrev pub page_goal : PageRules → List Node → ℤ
page_goal rules page = rules.textheight -ℤ feet_room page

-- ---- places

-- whether something stands on a page, and whether the last item is no discardable
abbrev pub is_some_left : List Node → Bool
is_some_left [] = false
is_some_left (_ ∷ _) = true

abbrev pub is_begun : List Node → Bool
is_begun nodes = is_some_left (without_top nodes)

abbrev pub is_firm : List Node → Bool
is_firm nodes = fold (λ so_far node. not (is_discardable node)) false nodes

abbrev pub is_glue_in : Node-F HeadMark Node Boxed Discretionary → Bool
is_glue_in (Glue glue) = true
is_glue_in _ = false

abbrev pub is_glue : Option Node → Bool
is_glue None = false
is_glue (Some node) = is_glue_in (out-Node node)

-- The penalty of the place at an item behind some others and before another one; none where the page cannot end there. It can at glue
-- behind an item that is no discardable, at a kern before glue, and at a penalty below 10000, but not at the page's top.
abbrev pub penalty_in : List Node → Node-F HeadMark Node Boxed Discretionary → Option Node → Option ℤ
penalty_in before (Glue glue) next = if is_firm before then Some (pos 0) else None
penalty_in before (Kern width origin) next = if is_explicit origin && (is_begun before && is_glue next) then Some (pos 0) else None
penalty_in before (Penalty penalty) next = if is_begun before && int_lt penalty (pos 10000) then Some penalty else None
penalty_in before _ next = None

abbrev pub penalty_of : List Node → Option Node → Option Node → Option ℤ
penalty_of before None next = None
penalty_of before (Some node) next = penalty_in before (out-Node node) next

unfoldable pub penalty_at : List Node → ℕ → Option ℤ
penalty_at nodes k = penalty_of (take k nodes) (slice_get nodes k) (slice_get nodes (suc k))

-- ---- costs

abbrev pub stretches_without_end : (Order → ℤ) → Bool
stretches_without_end stretch = not (is_zero (stretch Fil)) || (not (is_zero (stretch Fill)) || not (is_zero (stretch Filll)))

abbrev pub shrink_in_all : (Order → ℤ) → ℤ
shrink_in_all shrink = shrink Finite +ℤ (shrink Fil +ℤ (shrink Fill +ℤ shrink Filll))

-- how badly a page fits that has to take up an excess; none where it is overfull, since it has to shrink by more than it can
unfoldable pub badness_to : ℤ → (Order → ℤ) → (Order → ℤ) → Option ℤ
badness_to excess stretch shrink =
    if is_negative excess then
    (if int_lt (shrink_in_all shrink) (neg_ℤ excess) then None else Some (pos (badness_of (neg_ℤ excess) (shrink_in_all shrink))))
    else if stretches_without_end stretch then Some (pos 0)
    else Some (pos (badness_of excess (stretch Finite)))

abbrev pub is_forced : ℤ → Bool
is_forced penalty = int_le penalty (neg_ℤ (pos 10000))

unfoldable pub cost_by : ℤ → Option ℤ → Cost
cost_by penalty None = Awful
cost_by penalty (Some badness) =
    if is_forced penalty then Number penalty
    else if int_lt badness (pos 10000) then Number (badness +ℤ penalty)
    else Number (pos 100000)

-- what it costs to end a page behind what stands on it, at a place with this penalty
unfoldable pub cost_of : PageRules → List Node → ℤ → Cost
cost_of rules page penalty =
    cost_by penalty (badness_to (page_goal rules page -ℤ page_total rules page) (λ order. total (stretch_of order) page) (λ order. total (shrink_of order) page))

unfoldable pub cost_at : PageRules → List Node → ℕ → Option Cost
cost_at rules nodes k = option_map (cost_of rules (on_page rules (take k nodes))) (penalty_at nodes k)

-- whether one cost is at most another
abbrev pub costs_at_most : Cost → Cost → Bool
costs_at_most _ Awful = true
costs_at_most Awful (Number other) = false
costs_at_most (Number cost) (Number other) = int_le cost other

-- ---- the search

-- an awful place and a forced one, which alone costs -10000 or less, end the search
abbrev pub is_ending : Cost → Bool
is_ending Awful = true
is_ending (Number cost) = is_forced cost

abbrev pub ends_in : Option Cost → Bool
ends_in None = false
ends_in (Some cost) = is_ending cost

-- the first number below n that passes a test
abbrev pub first_below : (ℕ → Bool) → ℕ → Option ℕ
first_below test zero = None
first_below test (suc n) = elim (first_below test n) [ Some k ↦ Some k | None ↦ if test n then Some n else None ]

-- the place that ends the search
unfoldable pub search_end : PageRules → List Node → ℕ → Option ℕ
search_end rules nodes n = first_below (λ k. ends_in (cost_at rules nodes k)) n

-- of the places below n the last one of those that cost least
abbrev pub cheaper_of : (ℕ → Option Cost) → Option ℕ → ℕ → Option Cost → Option ℕ
cheaper_of cost best n None = best
cheaper_of cost None n (Some here) = Some n
cheaper_of cost (Some k) n (Some here) = elim (cost k) [ None ↦ Some n | Some there ↦ if costs_at_most here there then Some n else Some k ]

abbrev pub last_cheapest : (ℕ → Option Cost) → ℕ → Option ℕ
last_cheapest cost zero = None
last_cheapest cost (suc n) = cheaper_of cost (last_cheapest cost n) n (cost n)

unfoldable pub best_place : PageRules → List Node → ℕ → Option ℕ
best_place rules nodes n = last_cheapest (cost_at rules nodes) n

-- ---- limits

-- The sums of what stands on a page are its total and what hangs below it, the largest reach across and the room of the footnotes, and the
-- stretch and shrink of each order.
abbrev pub are_small_lengths : PageRules → List Node → Bool
are_small_lengths rules page =
    is_small (page_total rules page) && (is_small (hanging rules page) && (is_small (largest reach_right page) && is_small (total foot_size page)))

abbrev pub are_small_totals : PageRules → List Node → Bool
are_small_totals rules page =
    are_small_lengths rules page && (are_small_in (λ order. total (stretch_of order) page) && are_small_in (λ order. total (shrink_of order) page))

-- they are below 2^30 in size over its first items, for each number of them
unfoldable pub are_small_on_page : PageRules → List Node → Bool
are_small_on_page rules nodes = fronts_pass (are_small_totals rules) (on_page rules nodes)

-- ---- the page and the rest

-- Where the page ends: at the last place of those that cost least, up to the first awful or forced one. Where there is none, there is no
-- page yet. The sums are those of the items through the place that ends the search, or of all.
abbrev pub page_end_by : PageRules → List Node → Option ℕ → Result (Option ℕ) Kind
page_end_by rules nodes None = if are_small_on_page rules nodes then Ok None else Err DimenTooLarge
page_end_by rules nodes (Some last) = if are_small_on_page rules (take (suc last) nodes) then Ok (best_place rules nodes (suc last)) else Err DimenTooLarge

unfoldable pub page_end : PageRules → List Node → Result (Option ℕ) Kind
page_end rules nodes = page_end_by rules nodes (search_end rules nodes (length nodes))

-- a kern that takes back what hangs below the page's bottom, so that the natural height of the items is the page's total
abbrev pub closing_kern : PageRules → Option ℤ → List Node
closing_kern rules None = []
closing_kern rules (Some depth) = KernNode (neg_ℤ (int_min depth rules.maxdepth)) Explicit ∷ []

-- the page on which these items stand; its footnotes stand apart
abbrev pub page_with : PageRules → List Node → PagePart
page_with rules page = record {
  items = filter (λ node. not (is_foot node)) page ++ closing_kern rules (last_block_depth page);
  feet = filter is_foot page;
  goal = page_goal rules page;
}

unfoldable pub page_of : PageRules → List Node → PagePart
page_of rules nodes = page_with rules (on_page rules nodes)

-- the page that a list ends, and the nodes that are left, which begin with the place at which it ends
abbrev pub page_before : PageRules → List Node → Option ℕ → Option PagePart
page_before rules nodes end = option_map (λ k. page_of rules (take k nodes)) end

abbrev pub left_behind : List Node → Option ℕ → List Node
left_behind nodes None = nodes
left_behind nodes (Some k) = drop k nodes

abbrev pub page_in : PageRules → List Node → Result (Option ℕ) Kind → Result (Option PagePart) Kind
page_in rules nodes (Ok end) = Ok (page_before rules nodes end)
page_in rules nodes (Err kind) = Err kind

unfoldable pub next_part : PageRules → List Node → Result (Option PagePart) Kind
next_part rules nodes = page_in rules nodes (page_end rules nodes)

abbrev pub left_in : List Node → Result (Option ℕ) Kind → List Node
left_in nodes (Ok end) = left_behind nodes end
left_in nodes (Err kind) = nodes

unfoldable pub nodes_left : PageRules → List Node → List Node
nodes_left rules nodes = left_in nodes (page_end rules nodes)

-- ---- all pages

-- at most so many pages of a list, as the numbers of nodes that they take
abbrev pub with_page : ℕ → Result (List ℕ) Kind → Result (List ℕ) Kind
with_page k (Ok ends) = Ok (k ∷ ends)
with_page k (Err kind) = Err kind

abbrev pub ends_from : (List Node → Result (Option ℕ) Kind) → ℕ → List Node → Result (List ℕ) Kind
ends_from end zero nodes = Ok []
ends_from end (suc pages) nodes = elim (end nodes) [
  | Err kind ↦ Err kind
  | Ok place ↦ elim place [ None ↦ Ok [] | Some k ↦ with_page k (ends_from end pages (drop k nodes)) ]
]

-- `\vfil`, and a forced place
abbrev pub fil_glue : Node
fil_glue = GlueNode (record { width = pos 0; stretch = pos 65536; stretch_order = Fil; shrink = pos 0; shrink_order = Finite })

abbrev pub forced_place : Node
forced_place = PenaltyNode (neg_ℤ (pos 10000))

abbrev pub closed_by : List Node → List Node
closed_by nodes = nodes ++ fil_glue ∷ forced_place ∷ []

abbrev pub parts_by : PageRules → List Node → List ℕ → List PagePart
parts_by rules nodes [] = []
parts_by rules nodes (k ∷ ends) = page_of rules (take k nodes) ∷ parts_by rules (drop k nodes) ends

abbrev pub parts_in : PageRules → List Node → Result (List ℕ) Kind → Result (List PagePart) Kind
parts_in rules nodes (Ok ends) = Ok (parts_by rules nodes ends)
parts_in rules nodes (Err kind) = Err kind

-- all pages of a list that is closed; each takes a node at least
unfoldable pub all_parts : PageRules → List Node → Result (List PagePart) Kind
all_parts rules nodes = parts_in rules (closed_by nodes) (ends_from (page_end rules) (length (closed_by nodes)) (closed_by nodes))
