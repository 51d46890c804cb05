-- The totals of a list, and whether they are small.
use Rattle.std.proofs.Common.{◌≡◌, ℕ, ◌+◌, ◌≤◌, ◌<◌, ⊎_elim, List, [], ◌∷◌, ◌++◌, length, take, get_or, ℤ, pos, ◌+ℤ◌, ◌-ℤ◌, sym, ap, ◌∙◌, subst, arith}
use Rattle.std.proofs.lemmas.Bool.{cases_lt}
use Rattle.std.proofs.lemmas.Int.{ints}
use Rattle.std.proofs.lemmas.List.{take_more}
use Rattle.std.proofs.lemmas.List.Sums.{fold_push}
use Rattle.std.specs.Int.{int_max, w32}
use Rattle.std.specs.Prelude.{FitsSigned}
use Rattle.lb_base.specs.declared.glue.Order.{Order}
use Rattle.lb_base.specs.declared.node.Axis.{Axis}
use Rattle.lb_base.specs.declared.node.Axis.TheVariants.{Horizontal, Vertical}
use Rattle.lb_base.specs.declared.node.Node.{Node}
use Rattle.lb_model_paper.specs.Boxes.{AreSmallSums}
use Rattle.lb_model_paper.specs.Dvi.{IsSmall}
use Rattle.lb_model_paper.specs.Nodes.{along, depth_past, natural_size, reach_down, reach_right, reach_up, shrink_of, stretch_of, total}
use Rattle.lb_nodes.specs.declared.totals.Totals.{Totals}
use Rattle.lb_nodes.specs.Bounds.{IsSumOfFive, IsSumOfThree}
use Rattle.lb_nodes.specs.Totals.{amount_in, AreSmallInAll, AreSmallTotals, AreTotals, natural_in}
use Rattle.lb_nodes.proofs.Amounts.{AreSmallAmounts-from, IsSmall-amount_in}

-- ---- one node more

pub total_push : (f : Node → ℤ) (nodes : List Node) (node : Node) → total f (nodes ++ node ∷ []) ≡ total f nodes +ℤ f node
total_push f nodes node = fold_push (λ (so_far : ℤ) (n : Node). so_far +ℤ f n) (pos 0) nodes node

-- what has to hold of the totals behind one node more
pub record AreMore (axis : Axis) (node : Node) (old new : Totals) : Type 0 where
  pub room : new.room ≡ old.room +ℤ along axis node
  pub hanging : new.hanging ≡ depth_past old.hanging node
  pub up : new.up ≡ int_max old.up (reach_up node)
  pub down : new.down ≡ int_max old.down (reach_down node)
  pub right : new.right ≡ int_max old.right (reach_right node)
  pub stretch : (order : Order) → amount_in new.stretch order ≡ amount_in old.stretch order +ℤ stretch_of order node
  pub shrink : (order : Order) → amount_in new.shrink order ≡ amount_in old.shrink order +ℤ shrink_of order node

pub AreTotals-push : (axis : Axis) (before : List Node) (node : Node) (old new : Totals) → AreTotals axis before old → AreMore axis node old new → AreTotals axis (before ++ node ∷ []) new
AreTotals-push axis before node old new are more = record {
  room = more.room ∙ ap (λ (z : ℤ). z +ℤ along axis node) are.room ∙ sym (total_push (along axis) before node);
  hanging = more.hanging ∙ ap (λ (z : ℤ). depth_past z node) are.hanging ∙ sym (fold_push depth_past (pos 0) before node);
  up = more.up ∙ ap (λ (z : ℤ). int_max z (reach_up node)) are.up ∙ sym (fold_push (λ (z : ℤ) (n : Node). int_max z (reach_up n)) (pos 0) before node);
  down = more.down ∙ ap (λ (z : ℤ). int_max z (reach_down node)) are.down ∙ sym (fold_push (λ (z : ℤ) (n : Node). int_max z (reach_down n)) (pos 0) before node);
  right = more.right ∙ ap (λ (z : ℤ). int_max z (reach_right node)) are.right ∙ sym (fold_push (λ (z : ℤ) (n : Node). int_max z (reach_right n)) (pos 0) before node);
  stretch = λ order. more.stretch order ∙ ap (λ (z : ℤ). z +ℤ stretch_of order node) (are.stretch order) ∙ sym (total_push (stretch_of order) before node);
  shrink = λ order. more.shrink order ∙ ap (λ (z : ℤ). z +ℤ shrink_of order node) (are.shrink order) ∙ sym (total_push (shrink_of order) before node);
}

-- the room of one node more is not too large to be summed up
pub IsSumOfFive-more : (axis : Axis) (totals : Totals) (added : ℤ) → IsSmall (natural_in axis totals) → FitsSigned w32 totals.hanging → IsSumOfThree added → IsSumOfFive (totals.room +ℤ added)
IsSumOfFive-more Horizontal totals added small hanging three = record { low = omega (arith, ints); high = omega (arith, ints) }
IsSumOfFive-more Vertical totals added small hanging three = record { low = omega (arith, ints); high = omega (arith, ints) }

-- ---- small totals

pub natural_in_is : (axis : Axis) (nodes : List Node) (totals : Totals) → AreTotals axis nodes totals → natural_in axis totals ≡ natural_size axis nodes
unfolding natural_size
natural_in_is Horizontal nodes totals are = are.room
natural_in_is Vertical nodes totals are = ap (λ (z : ℤ). z -ℤ totals.hanging) are.room ∙ ap (λ (z : ℤ). total (along Vertical) nodes -ℤ z) are.hanging

pub AreSmallInAll-from : (axis : Axis) (nodes : List Node) (totals : Totals) → AreTotals axis nodes totals → AreSmallTotals axis totals → AreSmallInAll axis nodes
AreSmallInAll-from axis nodes totals are small = record {
  natural = subst (λ (z : ℤ). IsSmall z) (natural_in_is axis nodes totals are) small.natural;
  stretch = λ order. subst (λ (z : ℤ). IsSmall z) (are.stretch order) (IsSmall-amount_in totals.stretch small.stretch order);
  shrink = λ order. subst (λ (z : ℤ). IsSmall z) (are.shrink order) (IsSmall-amount_in totals.shrink small.shrink order);
}

pub AreSmallTotals-from : (axis : Axis) (nodes : List Node) (totals : Totals) → AreTotals axis nodes totals → AreSmallInAll axis nodes → AreSmallTotals axis totals
AreSmallTotals-from axis nodes totals are small = record {
  natural = subst (λ (z : ℤ). IsSmall z) (sym (natural_in_is axis nodes totals are)) small.natural;
  stretch = AreSmallAmounts-from totals.stretch (λ order. subst (λ (z : ℤ). IsSmall z) (sym (are.stretch order)) (small.stretch order));
  shrink = AreSmallAmounts-from totals.shrink (λ order. subst (λ (z : ℤ). IsSmall z) (sym (are.shrink order)) (small.shrink order));
}

-- ---- small sums

-- the sums of the first nodes are small, for each number of them up to k
abbrev pub AreSmallUpTo : Axis → List Node → ℕ → Type 0
AreSmallUpTo axis nodes k = (j : ℕ) → j ≤ k → AreSmallInAll axis (take j nodes)

pub AreSmallUpTo-none : (axis : Axis) (nodes : List Node) (totals : Totals) → AreTotals axis [] totals → AreSmallTotals axis totals → AreSmallUpTo axis nodes 0
AreSmallUpTo-none axis nodes totals are small j most =
    let none : 0 ≡ j = omega arith in
    let P : ℕ → Type 0 = λ i. AreSmallInAll axis (take i nodes) in
    subst P none (AreSmallInAll-from axis [] totals are small)

pub AreSmallUpTo-more : (axis : Axis) (nodes : List Node) (k : ℕ) → AreSmallUpTo axis nodes k → AreSmallInAll axis (take (k + 1) nodes) → AreSmallUpTo axis nodes (k + 1)
AreSmallUpTo-more axis nodes k below here j most =
    let P : ℕ → Type 0 = λ i. AreSmallInAll axis (take i nodes) in
    ⊎_elim (λ (less : j < k + 1). let bound : j ≤ k = omega arith in below j bound) (λ (more : k + 1 ≤ j). let last : k + 1 ≡ j = omega arith in subst P last here) (cases_lt j (k + 1))

pub AreSmallInAll-take : (axis : Axis) (nodes : List Node) (k : ℕ) → AreSmallSums axis nodes → k ≤ length nodes → AreSmallInAll axis (take k nodes)
AreSmallInAll-take axis nodes k sums within = record {
  natural = sums.natural k within;
  stretch = λ order. sums.stretch order k within;
  shrink = λ order. sums.shrink order k within;
}

-- ---- one turn over a list

pub AreTotals-turn : (axis : Axis) (nodes : List Node) (k : ℕ) (node : Node) (totals : Totals) → k < length nodes → node ≡ get_or nodes k node → AreTotals axis (take k nodes ++ node ∷ []) totals → AreTotals axis (take (k + 1) nodes) totals
AreTotals-turn axis nodes k node totals within is are =
    let P : List Node → Type 0 = λ ns. AreTotals axis ns totals in
    subst P (ap (λ (n : Node). take k nodes ++ n ∷ []) is ∙ sym (take_more nodes k node within)) are

pub AreSmallUpTo-turn : (axis : Axis) (nodes : List Node) (k : ℕ) (totals : Totals) → AreSmallUpTo axis nodes k → AreTotals axis (take (k + 1) nodes) totals → AreSmallTotals axis totals → AreSmallUpTo axis nodes (k + 1)
AreSmallUpTo-turn axis nodes k totals below are small = AreSmallUpTo-more axis nodes k below (AreSmallInAll-from axis (take (k + 1) nodes) totals are small)

-- where the sums of the whole list are small, the totals so far are
pub AreSmallTotals-so_far : (axis : Axis) (nodes : List Node) (k : ℕ) (totals : Totals) → k < length nodes → AreTotals axis (take (k + 1) nodes) totals → AreSmallSums axis nodes → AreSmallTotals axis totals
AreSmallTotals-so_far axis nodes k totals within are sums =
    let reached : k + 1 ≤ length nodes = omega arith in
    AreSmallTotals-from axis (take (k + 1) nodes) totals are (AreSmallInAll-take axis nodes (k + 1) sums reached)
