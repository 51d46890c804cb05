-- The sums over lists one behind another.
use Rattle.std.proofs.Common.{◌≡◌, ℕ, ◌+◌, ◌<◌, ◌≤◌, List, [], ◌∷◌, ◌++◌, length, take, get_or, ℤ, pos, ◌+ℤ◌, ◌-ℤ◌, refl, sym, ap, ◌∙◌, w64, to_z, of_z, FitsSigned, arith}
use Rattle.std.proofs.lemmas.Int.{ints, to_z-of_z}
use Rattle.std.proofs.lemmas.List.{take_more}
use Rattle.std.specs.List.{fold}
use Rattle.lb_base.specs.declared.glue.Order.TheVariants.{Finite, Fil, Fill, Filll}
use Rattle.lb_base.specs.declared.node.Axis.TheVariants.{Horizontal}
use Rattle.lb_base.specs.declared.node.Node.{Node}
use Rattle.lb_model_paper.specs.Breaks.{any_shrink, sums_of}
use Rattle.lb_model_paper.specs.Nodes.{along, shown, stretch_of, total}
use Rattle.lb_model_paper.specs.declared.paragraph.LineSums.{LineSums}
use Rattle.lb_measure.specs.Amounts.{added, AreNear, IsNear, less, nothing}
use Rattle.lb_measure.proofs.Shown.{shown-append}

-- ---- sums that are equal in all parts

pub sums-same : (a b : LineSums) → a.width ≡ b.width → a.finite ≡ b.finite → a.fil ≡ b.fil → a.fill ≡ b.fill → a.filll ≡ b.filll → a.shrink ≡ b.shrink → a ≡ b
sums-same a b width finite fil fill filll shrink =
    let A : ℤ → LineSums = λ z. record { width = z; finite = a.finite; fil = a.fil; fill = a.fill; filll = a.filll; shrink = a.shrink } in
    let B : ℤ → LineSums = λ z. record { width = b.width; finite = z; fil = a.fil; fill = a.fill; filll = a.filll; shrink = a.shrink } in
    let C : ℤ → LineSums = λ z. record { width = b.width; finite = b.finite; fil = z; fill = a.fill; filll = a.filll; shrink = a.shrink } in
    let D : ℤ → LineSums = λ z. record { width = b.width; finite = b.finite; fil = b.fil; fill = z; filll = a.filll; shrink = a.shrink } in
    let E : ℤ → LineSums = λ z. record { width = b.width; finite = b.finite; fil = b.fil; fill = b.fill; filll = z; shrink = a.shrink } in
    let F : ℤ → LineSums = λ z. record { width = b.width; finite = b.finite; fil = b.fil; fill = b.fill; filll = b.filll; shrink = z } in
    ap A width ∙ ap B finite ∙ ap C fil ∙ ap D fill ∙ ap E filll ∙ ap F shrink

pub plus_none : (z : ℤ) → z +ℤ pos 0 ≡ z
plus_none z = omega (arith, ints)

pub none_plus : (z : ℤ) → pos 0 +ℤ z ≡ z
none_plus z = omega (arith, ints)

plus_assoc : (a b c : ℤ) → (a +ℤ b) +ℤ c ≡ a +ℤ (b +ℤ c)
plus_assoc a b c = omega (arith, ints)

plus_minus : (a b : ℤ) → (a +ℤ b) -ℤ a ≡ b
plus_minus a b = omega (arith, ints)

pub added-nothing : (a : LineSums) → added a nothing ≡ a
added-nothing a = sums-same (added a nothing) a (plus_none a.width) (plus_none a.finite) (plus_none a.fil) (plus_none a.fill) (plus_none a.filll) (plus_none a.shrink)

pub nothing-added : (a : LineSums) → added nothing a ≡ a
nothing-added a = sums-same (added nothing a) a (none_plus a.width) (none_plus a.finite) (none_plus a.fil) (none_plus a.fill) (none_plus a.filll) (none_plus a.shrink)

pub added-assoc : (a b c : LineSums) → added (added a b) c ≡ added a (added b c)
added-assoc a b c = sums-same (added (added a b) c) (added a (added b c)) (plus_assoc a.width b.width c.width) (plus_assoc a.finite b.finite c.finite) (plus_assoc a.fil b.fil c.fil) (plus_assoc a.fill b.fill c.fill) (plus_assoc a.filll b.filll c.filll) (plus_assoc a.shrink b.shrink c.shrink)

pub less-added : (a b : LineSums) → less (added a b) a ≡ b
less-added a b = sums-same (less (added a b) a) b (plus_minus a.width b.width) (plus_minus a.finite b.finite) (plus_minus a.fil b.fil) (plus_minus a.fill b.fill) (plus_minus a.filll b.filll) (plus_minus a.shrink b.shrink)

-- ---- the sums of two lists

turn_from : (z x t : ℤ) → (z +ℤ x) +ℤ t ≡ z +ℤ ((pos 0 +ℤ x) +ℤ t)
turn_from z x t = omega (arith, ints)

total_from : (f : Node → ℤ) (z : ℤ) (nodes : List Node) → fold (λ (s : ℤ) (n : Node). s +ℤ f n) z nodes ≡ z +ℤ total f nodes
total_from f z [] = sym (plus_none z)
total_from f z (node ∷ nodes) =
    total_from f (z +ℤ f node) nodes ∙ turn_from z (f node) (total f nodes) ∙ ap (λ (t : ℤ). z +ℤ t) (sym (total_from f (pos 0 +ℤ f node) nodes))

pub total-append : (f : Node → ℤ) (nodes more : List Node) → total f (nodes ++ more) ≡ total f nodes +ℤ total f more
total-append f [] more = sym (none_plus (total f more))
total-append f (node ∷ nodes) more =
    total_from f (pos 0 +ℤ f node) (nodes ++ more) ∙ ap (λ (t : ℤ). (pos 0 +ℤ f node) +ℤ t) (total-append f nodes more)
    ∙ sym (plus_assoc (pos 0 +ℤ f node) (total f nodes) (total f more)) ∙ ap (λ (t : ℤ). t +ℤ total f more) (sym (total_from f (pos 0 +ℤ f node) nodes))

pub sums_of-append : (nodes more : List Node) → sums_of (nodes ++ more) ≡ added (sums_of nodes) (sums_of more)
unfolding sums_of
sums_of-append nodes more =
    sums-same (sums_of (nodes ++ more)) (added (sums_of nodes) (sums_of more)) (total-append (along Horizontal) nodes more) (total-append (stretch_of Finite) nodes more)
    (total-append (stretch_of Fil) nodes more) (total-append (stretch_of Fill) nodes more) (total-append (stretch_of Filll) nodes more) (total-append any_shrink nodes more)

pub sums_of-nil : sums_of [] ≡ nothing
unfolding sums_of
sums_of-nil = refl

pub shown_sums-append : (nodes more : List Node) → sums_of (shown (nodes ++ more)) ≡ added (sums_of (shown nodes)) (sums_of (shown more))
shown_sums-append nodes more = ap sums_of (shown-append nodes more) ∙ sums_of-append (shown nodes) (shown more)

-- one node more
pub shown_sums-more : (nodes : List Node) (k : ℕ) (node : Node) → k < length nodes → node ≡ get_or nodes k node → sums_of (shown (take (k + 1) nodes)) ≡ added (sums_of (shown (take k nodes))) (sums_of (shown (node ∷ [])))
shown_sums-more nodes k node within is =
    ap (λ (ns : List Node). sums_of (shown ns)) (take_more nodes k node within ∙ ap (λ (n : Node). take k nodes ++ n ∷ []) (sym is)) ∙ shown_sums-append (take k nodes) (node ∷ [])

-- ---- how large they are

pub IsNear-more : (m n : ℕ) (z : ℤ) → m ≤ n → IsNear m z → IsNear n z
IsNear-more m n z le near = record { low = omega (arith, ints, near.low); high = omega (arith, ints, near.high) }

pub AreNear-more : (m n : ℕ) (sums : LineSums) → m ≤ n → AreNear m sums → AreNear n sums
AreNear-more m n sums le near = record {
  width = IsNear-more m n sums.width le near.width;
  finite = IsNear-more m n sums.finite le near.finite;
  fil = IsNear-more m n sums.fil le near.fil;
  fill = IsNear-more m n sums.fill le near.fill;
  filll = IsNear-more m n sums.filll le near.filll;
  shrink = IsNear-more m n sums.shrink le near.shrink;
}

IsNear-plus : (m n : ℕ) (a b : ℤ) → IsNear m a → IsNear n b → IsNear (m + n) (a +ℤ b)
IsNear-plus m n a b near other = record { low = omega (arith, ints, near.low, other.low); high = omega (arith, ints, near.high, other.high) }

IsNear-minus : (m n : ℕ) (a b : ℤ) → IsNear m a → IsNear n b → IsNear (m + n) (a -ℤ b)
IsNear-minus m n a b near other = record { low = omega (arith, ints, near.low, other.high); high = omega (arith, ints, near.high, other.low) }

pub AreNear-added : (m n : ℕ) (a b : LineSums) → AreNear m a → AreNear n b → AreNear (m + n) (added a b)
AreNear-added m n a b near other = record {
  width = IsNear-plus m n a.width b.width near.width other.width;
  finite = IsNear-plus m n a.finite b.finite near.finite other.finite;
  fil = IsNear-plus m n a.fil b.fil near.fil other.fil;
  fill = IsNear-plus m n a.fill b.fill near.fill other.fill;
  filll = IsNear-plus m n a.filll b.filll near.filll other.filll;
  shrink = IsNear-plus m n a.shrink b.shrink near.shrink other.shrink;
}

pub AreNear-less : (m n : ℕ) (a b : LineSums) → AreNear m a → AreNear n b → AreNear (m + n) (less a b)
AreNear-less m n a b near other = record {
  width = IsNear-minus m n a.width b.width near.width other.width;
  finite = IsNear-minus m n a.finite b.finite near.finite other.finite;
  fil = IsNear-minus m n a.fil b.fil near.fil other.fil;
  fill = IsNear-minus m n a.fill b.fill near.fill other.fill;
  filll = IsNear-minus m n a.filll b.filll near.filll other.filll;
  shrink = IsNear-minus m n a.shrink b.shrink near.shrink other.shrink;
}

-- ---- numbers as the code holds them in 64 bits

FitsSigned-near : (z : ℤ) → IsNear 2097152 z → FitsSigned w64 z
FitsSigned-near z near = grind (arith, ints)

pub held : (z : ℤ) → IsNear 2097152 z → to_z w64 (of_z w64 z) ≡ z
held z near = to_z-of_z w64 z (FitsSigned-near z near)

pub held_sum : (x a b : ℤ) → IsNear 1048576 a → IsNear 1048576 b → x ≡ to_z w64 (of_z w64 a) +ℤ to_z w64 (of_z w64 b) → to_z w64 (of_z w64 x) ≡ a +ℤ b
held_sum x a b near other is =
    let near_a : IsNear 2097152 a = IsNear-more 1048576 2097152 a (omega arith) near in
    let near_b : IsNear 2097152 b = IsNear-more 1048576 2097152 b (omega arith) other in
    ap (λ (z : ℤ). to_z w64 (of_z w64 z)) (is ∙ ap (λ (z : ℤ). z +ℤ to_z w64 (of_z w64 b)) (held a near_a) ∙ ap (λ (z : ℤ). a +ℤ z) (held b near_b))
    ∙ held (a +ℤ b) (IsNear-plus 1048576 1048576 a b near other)

pub held_difference : (x a b : ℤ) → IsNear 1048576 a → IsNear 1048576 b → x ≡ to_z w64 (of_z w64 a) -ℤ to_z w64 (of_z w64 b) → to_z w64 (of_z w64 x) ≡ a -ℤ b
held_difference x a b near other is =
    let near_a : IsNear 2097152 a = IsNear-more 1048576 2097152 a (omega arith) near in
    let near_b : IsNear 2097152 b = IsNear-more 1048576 2097152 b (omega arith) other in
    ap (λ (z : ℤ). to_z w64 (of_z w64 z)) (is ∙ ap (λ (z : ℤ). z -ℤ to_z w64 (of_z w64 b)) (held a near_a) ∙ ap (λ (z : ℤ). a -ℤ z) (held b near_b))
    ∙ held (a -ℤ b) (IsNear-minus 1048576 1048576 a b near other)
