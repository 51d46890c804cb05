-- Where the glue of a box takes up exactly its excess.
use Rattle.std.proofs.Common.{◌≡◌, ℕ, ◌+◌, inl, inr, List, length, ℤ, pos, neg_ℤ, ◌+ℤ◌, ◌-ℤ◌, ◌<ℤ◌, Bool, ◌&&◌, ◌==◌, false, sym, ap, ◌∙◌, arith}
use Rattle.std.proofs.lemmas.Int.{ints}
use Rattle.std.proofs.lemmas.List.{take_all}
use Rattle.std.specs.Int.{is_negative}
use Rattle.std.specs.Prelude.{int_lt}
use Rattle.lb_base.specs.declared.glue.GlueSet.{GlueSet}
use Rattle.lb_base.specs.declared.glue.Target.{Target}
use Rattle.lb_base.specs.declared.node.Axis.{Axis}
use Rattle.lb_base.specs.declared.node.Axis.TheVariants.{Horizontal, Vertical}
use Rattle.lb_base.specs.declared.node.Boxed.{Boxed, out-Boxed}
use Rattle.lb_base.specs.declared.node.Node.{Node}
use Rattle.lb_model_paper.specs.Boxes.{asked_size, excess_of, give_of, is_overfull, IsPacked, shift_after, shift_behind, shift_through}
use Rattle.lb_model_paper.specs.Nodes.{natural_size, place_of_order, total}
use Rattle.lb_nodes.specs.Laws.{size_along, TakesUpAll}
use Rattle.lb_nodes.proofs.NearestQuotients.{nearest-mul}
use Rattle.lb_nodes.proofs.Shifting.{is_zero-not, shift_behind-nearest, shift_behind-no_excess}

-- what stretches is not overfull
is_overfull-stretch : (set : GlueSet) (whole : ℤ) → pos 0 <ℤ set.excess → is_overfull set whole ≡ false
is_overfull-stretch set whole more =
    let stretches : is_negative set.excess ≡ false = grind (arith, ints) in
    ap (λ (b : Bool). b && (place_of_order set.order == 0 && int_lt whole (neg_ℤ set.excess))) stretches

shift_behind-exact : (set : GlueSet) (whole : ℤ) → (whole ≡ pos 0 → ⊥) → (set.excess ≡ pos 0 → ⊥) → is_overfull set whole ≡ false → shift_behind set whole whole ≡ set.excess
shift_behind-exact set whole some some_excess fits = shift_behind-nearest set whole whole (is_zero-not whole some) fits ∙ nearest-mul whole set.excess some some_excess

not_none_above : (z : ℤ) → pos 0 <ℤ z → z ≡ pos 0 → ⊥
not_none_above z more none = omega (arith, ints)

not_none_below : (z : ℤ) → z <ℤ pos 0 → z ≡ pos 0 → ⊥
not_none_below z less none = omega (arith, ints)

pub shift_behind-whole : (set : GlueSet) (whole : ℤ) → TakesUpAll set whole → shift_behind set whole whole ≡ set.excess
shift_behind-whole set whole (inl none) = shift_behind-no_excess set whole whole none ∙ sym none
shift_behind-whole set whole (inr (inl stretches)) = shift_behind-exact set whole stretches.1 (not_none_above set.excess stretches.0) (is_overfull-stretch set whole stretches.0)
shift_behind-whole set whole (inr (inr shrinks)) = shift_behind-exact set whole shrinks.1 (not_none_below set.excess shrinks.0) shrinks.2

size_along_is : (axis : Axis) (nodes : List Node) (target : Target) (box : Boxed) → IsPacked axis nodes target box → size_along axis box ≡ asked_size axis nodes target
size_along_is Horizontal nodes target box packed = packed.width
size_along_is Vertical nodes target box packed = packed.height

natural_and_excess : (natural asked : ℤ) → natural +ℤ (asked -ℤ natural) ≡ asked
natural_and_excess natural asked = omega (arith, ints)

-- the shift behind all items of a packed box
shift_after-all : (axis : Axis) (nodes : List Node) (target : Target) (box : Boxed) (last : ℕ) → IsPacked axis nodes target box → TakesUpAll (out-Boxed box).glue_set (total (give_of (out-Boxed box).glue_set) nodes) → last + 1 ≡ length nodes → shift_through box last ≡ (out-Boxed box).glue_set.excess
shift_after-all axis nodes target box last packed takes is_last =
    let set : GlueSet = (out-Boxed box).glue_set in
    let S : List Node → ℤ = λ ns. shift_after set ns (last + 1) in
    let T : List Node → ℤ = λ ns. shift_behind set (total (give_of set) ns) (total (give_of set) nodes) in
    ap S packed.items ∙ ap T (take_all (last + 1) nodes (omega arith)) ∙ shift_behind-whole set (total (give_of set) nodes) takes

pub box_ends : (axis : Axis) (nodes : List Node) (target : Target) (box : Boxed) (last : ℕ) → IsPacked axis nodes target box → TakesUpAll (out-Boxed box).glue_set (total (give_of (out-Boxed box).glue_set) nodes) → last + 1 ≡ length nodes → natural_size axis nodes +ℤ shift_through box last ≡ size_along axis box
box_ends axis nodes target box last packed takes is_last =
    let excess : (out-Boxed box).glue_set.excess ≡ excess_of axis nodes target = ap (λ (s : GlueSet). s.excess) packed.glue_set in
    ap (λ (z : ℤ). natural_size axis nodes +ℤ z) (shift_after-all axis nodes target box last packed takes is_last ∙ excess) ∙ natural_and_excess (natural_size axis nodes) (asked_size axis nodes target) ∙ sym (size_along_is axis nodes target box packed)
