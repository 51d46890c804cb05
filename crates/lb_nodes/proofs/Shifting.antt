-- Where glue is set.
use Rattle.std.proofs.Common.{◌≡◌, ℕ, zero, suc, ◌+◌, ◌<◌, ◌≤◌, Bool, true, false, cond, ◌&&◌, ◌==◌, ⊎_elim, List, [], ◌∷◌, ◌++◌, length, get_or, take, refl, ℤ, pos, negsuc, neg_ℤ, ◌+ℤ◌, ◌*ℤ◌, sym, ap, ◌∙◌, subst, arith}
use Rattle.std.proofs.lemmas.Bool.{cases_lt, ne_eqb}
use Rattle.std.specs.Prelude.{int_lt}
use Rattle.std.specs.List.{fold}
use Rattle.std.specs.Int.{is_negative}
use Rattle.std.proofs.lemmas.Int.{ints}
use Rattle.std.proofs.lemmas.List.{take_more}
use Rattle.lb_base.specs.declared.glue.GlueSet.{GlueSet}
use Rattle.lb_base.specs.declared.node.Node.{Node}
use Rattle.lb_model_paper.specs.Boxes.{give_of, is_overfull, nearest, shift_after, shift_behind}
use Rattle.lb_model_paper.specs.Dvi.{IsSmall, is_zero}
use Rattle.lb_model_paper.specs.Nodes.{place_of_order, shrink_of, stretch_of, total}
use Rattle.lb_nodes.specs.Setting.{AreSmallShifts}
use Rattle.lb_nodes.proofs.NearestQuotients.{nearest_no_excess, nearest_no_part}
use Rattle.lb_nodes.proofs.Totalling.{total_push}

-- ---- the cases of a shift

pub is_zero-not : (z : ℤ) → (z ≡ pos 0 → ⊥) → is_zero z ≡ false
is_zero-not (pos zero) not_none = absurd (not_none refl)
is_zero-not (pos (suc n)) not_none = ne_eqb (suc n) 0 (λ (e : suc n ≡ 0). omega arith)
is_zero-not (negsuc n) not_none = refl

pub shift_behind-overfull : (set : GlueSet) (part whole : ℤ) → is_zero whole ≡ false → is_overfull set whole ≡ true → shift_behind set part whole ≡ neg_ℤ part
unfolding shift_behind
shift_behind-overfull set part whole some over = rw (some, over)

pub shift_behind-nearest : (set : GlueSet) (part whole : ℤ) → is_zero whole ≡ false → is_overfull set whole ≡ false → shift_behind set part whole ≡ nearest (part *ℤ set.excess) whole
unfolding shift_behind
shift_behind-nearest set part whole some fits = rw (some, fits)

pub shift_behind-none : (set : GlueSet) (part whole : ℤ) → whole ≡ pos 0 → shift_behind set part whole ≡ pos 0
unfolding shift_behind
shift_behind-none set part whole none = rw none

-- ---- what there is to give

abbrev given_by : Bool → GlueSet → List Node → ℤ
given_by negative set nodes = fold (λ so_far node. so_far +ℤ cond negative (shrink_of set.order node) (stretch_of set.order node)) (pos 0) nodes

pub total-give_shrink : (set : GlueSet) (nodes : List Node) → is_negative set.excess ≡ true → total (give_of set) nodes ≡ total (shrink_of set.order) nodes
total-give_shrink set nodes negative = ap (λ (b : Bool). given_by b set nodes) negative

pub total-give_stretch : (set : GlueSet) (nodes : List Node) → is_negative set.excess ≡ false → total (give_of set) nodes ≡ total (stretch_of set.order) nodes
total-give_stretch set nodes negative = ap (λ (b : Bool). given_by b set nodes) negative

-- ---- no shift

pub IsSmall-none : IsSmall (pos 0)
IsSmall-none = record { low = omega (arith, ints); high = omega (arith, ints) }

shift_behind-zero : (set : GlueSet) (part whole : ℤ) → is_zero whole ≡ true → shift_behind set part whole ≡ pos 0
unfolding shift_behind
shift_behind-zero set part whole none = rw none

no_excess : (set : GlueSet) (part whole : ℤ) (b : Bool) → is_zero whole ≡ b → set.excess ≡ pos 0 → shift_behind set part whole ≡ pos 0
no_excess set part whole true zeroed none = shift_behind-zero set part whole zeroed
no_excess set part whole false some none =
    let fits : is_overfull set whole ≡ false = ap (λ (z : ℤ). is_negative z && (place_of_order set.order == 0 && int_lt whole (neg_ℤ z))) none in
    shift_behind-nearest set part whole some fits ∙ ap (λ (z : ℤ). nearest (part *ℤ z) whole) none ∙ nearest_no_excess part whole

pub shift_behind-no_excess : (set : GlueSet) (part whole : ℤ) → set.excess ≡ pos 0 → shift_behind set part whole ≡ pos 0
shift_behind-no_excess set part whole none = no_excess set part whole (is_zero whole) refl none

no_part : (set : GlueSet) (whole : ℤ) (b o : Bool) → is_zero whole ≡ b → is_overfull set whole ≡ o → shift_behind set (pos 0) whole ≡ pos 0
no_part set whole true o zeroed over = shift_behind-zero set (pos 0) whole zeroed
no_part set whole false true some over = shift_behind-overfull set (pos 0) whole some over
no_part set whole false false some fits = shift_behind-nearest set (pos 0) whole some fits ∙ nearest_no_part set.excess whole

pub shift_behind-no_part : (set : GlueSet) (whole : ℤ) → shift_behind set (pos 0) whole ≡ pos 0
shift_behind-no_part set whole = no_part set whole (is_zero whole) (is_overfull set whole) refl refl

pub AreSmallShifts-none : (set : GlueSet) (nodes : List Node) (k : ℕ) → k ≤ 0 → IsSmall (shift_after set nodes k)
AreSmallShifts-none set nodes k most =
    let first : 0 ≡ k = omega arith in
    let P : ℕ → Type 0 = λ i. IsSmall (shift_after set nodes i) in
    let Q : ℤ → Type 0 = λ z. IsSmall z in
    subst P first (subst Q (sym (shift_behind-no_part set (total (give_of set) nodes))) IsSmall-none)

pub AreSmallShifts-no_excess : (set : GlueSet) (nodes : List Node) → set.excess ≡ pos 0 → AreSmallShifts set nodes
AreSmallShifts-no_excess set nodes none k within =
    let P : ℤ → Type 0 = λ z. IsSmall z in
    subst P (sym (shift_behind-no_excess set (total (give_of set) (take k nodes)) (total (give_of set) nodes) none)) IsSmall-none

pub AreSmallShifts-nothing : (set : GlueSet) (nodes : List Node) → total (give_of set) nodes ≡ pos 0 → AreSmallShifts set nodes
AreSmallShifts-nothing set nodes none k within =
    let P : ℤ → Type 0 = λ z. IsSmall z in
    subst P (sym (shift_behind-none set (total (give_of set) (take k nodes)) (total (give_of set) nodes) none)) IsSmall-none

-- ---- one turn over the nodes

pub total-give_turn : (set : GlueSet) (nodes : List Node) (k : ℕ) (node : Node) → k < length nodes → node ≡ get_or nodes k node → total (give_of set) (take (k + 1) nodes) ≡ total (give_of set) (take k nodes) +ℤ give_of set node
total-give_turn set nodes k node within is =
    ap (λ (ns : List Node). total (give_of set) ns) (take_more nodes k node within ∙ ap (λ (n : Node). take k nodes ++ n ∷ []) (sym is)) ∙ total_push (give_of set) (take k nodes) node

pub AreSmallShifts-more : (set : GlueSet) (nodes : List Node) (k : ℕ) → ((j : ℕ) → j ≤ k → IsSmall (shift_after set nodes j)) → IsSmall (shift_after set nodes (k + 1)) → (j : ℕ) → j ≤ k + 1 → IsSmall (shift_after set nodes j)
AreSmallShifts-more set nodes k below here j most =
    let P : ℕ → Type 0 = λ i. IsSmall (shift_after set nodes i) in
    ⊎_elim (λ (less : j < k + 1). let bound : j ≤ k = omega arith in below j bound) (λ (more : k + 1 ≤ j). let last : k + 1 ≡ j = omega arith in subst P last here) (cases_lt j (k + 1))

-- ---- one turn of a sum

pub sum_turn : (set : GlueSet) (nodes : List Node) (k : ℕ) (node : Node) (part give sum : ℤ) → k < length nodes → node ≡ get_or nodes k node → part ≡ total (give_of set) (take k nodes) → give ≡ give_of set node → sum ≡ part +ℤ give → sum ≡ total (give_of set) (take (k + 1) nodes)
sum_turn set nodes k node part give sum within is part_is give_is sums =
    sums ∙ ap (λ (z : ℤ). z +ℤ give) part_is ∙ ap (λ (z : ℤ). total (give_of set) (take k nodes) +ℤ z) give_is ∙ sym (total-give_turn set nodes k node within is)

-- the shift of a part and of the whole of a list
pub shift_after-is : (set : GlueSet) (nodes : List Node) (k : ℕ) (part whole : ℤ) → part ≡ total (give_of set) (take k nodes) → whole ≡ total (give_of set) nodes → shift_behind set part whole ≡ shift_after set nodes k
shift_after-is set nodes k part whole part_is whole_is = ap (λ (z : ℤ). shift_behind set z whole) part_is ∙ ap (λ (z : ℤ). shift_behind set (total (give_of set) (take k nodes)) z) whole_is
