-- Boxes: how a list is packed, and where the glue of a box is set (The TeXbook, chapter 12; tex.web, part 33, but that all the
-- glue of a box is set by one fraction of the sum, so that no rounding adds up). Lengths are in scaled points.
use Rattle.std.specs.Prelude.{◌≡◌, ℕ, suc, ◌+◌, ◌*◌, ◌/◌, ◌==◌, ◌≤◌, Bool, true, false, not, ◌&&◌, List, map, take, length, if◌then◌else◌, ℤ, pos, neg_ℤ, nat_abs, int_lt, ◌+ℤ◌, ◌-ℤ◌, ◌*ℤ◌, nat_lt, Result, Ok, Err}
use Rattle.std.specs.List.{list_all, range_with_len}
use Rattle.std.specs.Int.{is_negative}
use Rattle.lb_base.specs.declared.fault.Kind.{Kind}
use Rattle.lb_base.specs.declared.fault.Kind.TheVariants.{DepthLimit, DimenTooLarge}
use Rattle.lb_base.specs.declared.glue.GlueSet.{GlueSet}
use Rattle.lb_base.specs.declared.glue.Order.{Order}
use Rattle.lb_base.specs.declared.glue.Order.TheVariants.{Finite, Fil, Fill, Filll}
use Rattle.lb_base.specs.declared.glue.Target.{Target}
use Rattle.lb_base.specs.declared.glue.Target.TheVariants.{Natural, To, Spread}
use Rattle.lb_base.specs.declared.node.Axis.{Axis}
use Rattle.lb_base.specs.declared.node.Axis.TheVariants.{Horizontal, Vertical}
use Rattle.lb_base.specs.declared.node.Boxed.{Boxed, out-Boxed, roll-Boxed}
use Rattle.lb_base.specs.declared.node.Node.{Node}
use Rattle.lb_model_paper.specs.Dvi.{IsSmall, is_small, is_zero}
use Rattle.lb_model_paper.specs.Nodes.{Size, along, largest, last_depth, most, natural_size, nesting_of, place_of_order, reach_down, reach_right, reach_up, shrink_of, stretch_of, total}

-- ---- the size of a box

-- the size that a box is to have along its list, whose natural size is given
abbrev pub asked : Target → ℤ → ℤ
asked Natural natural = natural
asked (To size) natural = size
asked (Spread more) natural = natural +ℤ more

abbrev pub asked_size : Axis → List Node → Target → ℤ
asked_size axis nodes target = asked target (natural_size axis nodes)

-- what the glue has to take up: above 0 it stretches, and below 0 it shrinks
abbrev pub excess_of : Axis → List Node → Target → ℤ
excess_of axis nodes target = asked_size axis nodes target -ℤ natural_size axis nodes

-- the size of the box across its list is the largest of its items
abbrev pub box_size : Axis → List Node → Target → Size
box_size Horizontal nodes target = record { width = asked_size Horizontal nodes target; height = largest reach_up nodes; depth = largest reach_down nodes }
box_size Vertical nodes target = record { width = largest reach_right nodes; height = asked_size Vertical nodes target; depth = last_depth nodes }

-- ---- the order that is used

-- the highest order whose total is not 0
abbrev pub highest : (Order → ℤ) → Order
highest f = if not (is_zero (f Filll)) then Filll else if not (is_zero (f Fill)) then Fill else if not (is_zero (f Fil)) then Fil else Finite

-- of a node, what there is to give where the excess is this
abbrev pub give_of : GlueSet → Node → ℤ
give_of set node = if is_negative set.excess then shrink_of set.order node else stretch_of set.order node

abbrev pub used_order : ℤ → List Node → Order
used_order excess nodes =
    if is_zero excess then Finite
    else if is_negative excess then highest (λ order. total (shrink_of order) nodes)
    else highest (λ order. total (stretch_of order) nodes)

abbrev pub set_of : Axis → List Node → Target → GlueSet
set_of axis nodes target = record { excess = excess_of axis nodes target; order = used_order (excess_of axis nodes target) nodes }

-- the box of a list
pub record IsPacked (axis : Axis) (nodes : List Node) (target : Target) (box : Boxed) : Type 0 where
  pub way : (out-Boxed box).axis ≡ axis
  pub items : (out-Boxed box).items ≡ nodes
  pub width : (out-Boxed box).width ≡ (box_size axis nodes target).width
  pub height : (out-Boxed box).height ≡ (box_size axis nodes target).height
  pub depth : (out-Boxed box).depth ≡ (box_size axis nodes target).depth
  pub unshifted : (out-Boxed box).shift ≡ pos 0
  pub glue_set : (out-Boxed box).glue_set ≡ set_of axis nodes target

-- ---- where the items of a box are

-- a number with a sign
abbrev pub signed_as : Bool → ℕ → ℤ
signed_as true n = neg_ℤ (pos n)
signed_as false n = pos n

abbrev pub differ : Bool → Bool → Bool
differ true b = not b
differ false b = b

-- the whole number nearest to a quotient, halves away from 0
unfoldable pub nearest : ℤ → ℤ → ℤ
nearest n d = signed_as (differ (is_negative n) (is_negative d)) ((2 * nat_abs n + nat_abs d) / (2 * nat_abs d))

-- A box is overfull where it has to shrink by more than its finite shrink, and then it shrinks by all of that.
abbrev pub is_overfull : GlueSet → ℤ → Bool
is_overfull set whole = is_negative set.excess && (place_of_order set.order == 0 && int_lt whole (neg_ℤ set.excess))

-- how far the glue shifts what stands behind a part of it, where the whole gives so much; where there is nothing to give, the
-- items keep their natural places
unfoldable pub shift_behind : GlueSet → ℤ → ℤ → ℤ
shift_behind set part whole =
    if is_zero whole then pos 0
    else if is_overfull set whole then neg_ℤ part
    else nearest (part *ℤ set.excess) whole

-- the shift behind the first k of these nodes
abbrev pub shift_after : GlueSet → List Node → ℕ → ℤ
shift_after set nodes k = shift_behind set (total (give_of set) (take k nodes)) (total (give_of set) nodes)

-- the shift through an item of a box
abbrev pub shift_through : Boxed → ℕ → ℤ
shift_through box item = shift_after (out-Boxed box).glue_set (out-Boxed box).items (item + 1)

-- where an item of a box begins: behind the natural sizes and the shifts of those before it
abbrev pub place_of : Boxed → ℕ → ℤ
place_of box item = total (along (out-Boxed box).axis) (take item (out-Boxed box).items) +ℤ shift_after (out-Boxed box).glue_set (out-Boxed box).items item

-- ---- limits

-- the natural size, stretch and shrink of the first items of a list, for each number of them, are below 2^30 in size
pub record AreSmallSums (axis : Axis) (nodes : List Node) : Type 0 where
  pub natural : (k : ℕ) → k ≤ length nodes → IsSmall (natural_size axis (take k nodes))
  pub stretch : (order : Order) (k : ℕ) → k ≤ length nodes → IsSmall (total (stretch_of order) (take k nodes))
  pub shrink : (order : Order) (k : ℕ) → k ≤ length nodes → IsSmall (total (shrink_of order) (take k nodes))

-- the size of a box across its list
abbrev pub IsSmallAcross : Axis → Size → Type 0
IsSmallAcross Horizontal size = IsSmall size.height × IsSmall size.depth
IsSmallAcross Vertical size = IsSmall size.width

-- and so are the size that is asked for, the size across the list, the excess, and the shift through each item
pub record IsSmallBox (axis : Axis) (nodes : List Node) (target : Target) : Type 0 where
  pub sums : AreSmallSums axis nodes
  pub asked : IsSmall (asked_size axis nodes target)
  pub across : IsSmallAcross axis (box_size axis nodes target)
  pub excess : IsSmall (excess_of axis nodes target)
  pub shifts : (k : ℕ) → k ≤ length nodes → IsSmall (shift_after (set_of axis nodes target) nodes k)

-- how many boxes stand inside one another in the box of a list
abbrev pub nesting_of_list : List Node → ℕ
nesting_of_list nodes = suc (most (map nesting_of nodes))

-- ---- packing as a function

-- each first part of a list, from the empty one to the whole, passes a test
abbrev pub fronts_pass : (List Node → Bool) → List Node → Bool
fronts_pass test nodes = list_all (λ k. test (take k nodes)) (range_with_len 0 (suc (length nodes)))

abbrev pub are_small_in : (Order → ℤ) → Bool
are_small_in f = is_small (f Finite) && (is_small (f Fil) && (is_small (f Fill) && is_small (f Filll)))

-- `AreSmallSums` and `IsSmallBox` as tests
abbrev pub are_small_sums : Axis → List Node → Bool
are_small_sums axis nodes =
    fronts_pass (λ front. is_small (natural_size axis front) && (are_small_in (λ order. total (stretch_of order) front) && are_small_in (λ order. total (shrink_of order) front))) nodes

abbrev pub is_small_across : Axis → Size → Bool
is_small_across Horizontal size = is_small size.height && is_small size.depth
is_small_across Vertical size = is_small size.width

abbrev pub are_small_shifts : GlueSet → List Node → Bool
are_small_shifts set nodes = list_all (λ k. is_small (shift_after set nodes k)) (range_with_len 0 (suc (length nodes)))

unfoldable pub is_small_box : Axis → List Node → Target → Bool
is_small_box axis nodes target =
    are_small_sums axis nodes
    && (is_small (asked_size axis nodes target)
    && (is_small_across axis (box_size axis nodes target)
    && (is_small (excess_of axis nodes target) && are_small_shifts (set_of axis nodes target) nodes)))

-- the box of a list
abbrev pub packed : Axis → List Node → Target → Boxed
packed axis nodes target = roll-Boxed (record {
  axis = axis;
  items = nodes;
  width = (box_size axis nodes target).width;
  height = (box_size axis nodes target).height;
  depth = (box_size axis nodes target).depth;
  shift = pos 0;
  glue_set = set_of axis nodes target;
})

-- the box of a list of items without discretionaries, or why there is none: a sum that is not small comes first, and then more
-- than 500 boxes inside one another
unfoldable pub packs : Axis → List Node → Target → Result Boxed Kind
packs axis nodes target =
    if not (is_small_box axis nodes target) then Err DimenTooLarge
    else if nat_lt 500 (nesting_of_list nodes) then Err DepthLimit
    else Ok (packed axis nodes target)
