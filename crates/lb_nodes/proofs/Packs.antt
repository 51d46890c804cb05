-- The test of a list that is packed, and the boxes that packing gives.
use Rattle.std.proofs.Common.{◌≡◌, ℕ, zero, suc, ◌+◌, ◌<◌, ◌≤◌, Bool, true, false, not, cond, ◌&&◌, List, length, take, ℤ, refl, sym, ap, ◌∙◌, subst, arith, rules}
use Rattle.std.specs.Prelude.{Result, Ok, Err, nat_lt, int_le, negsuc, pos}
use Rattle.std.specs.List.{list_all, range_with_len}
use Rattle.std.proofs.lemmas.Bool.{and_from, and_parts, false≢true}
use Rattle.std.proofs.lemmas.Int.{ints}
use Rattle.std.proofs.lemmas.Grind.{common_steps}
use Rattle.lb_base.specs.declared.fault.Kind.{Kind}
use Rattle.lb_base.specs.declared.fault.Kind.TheVariants.{DepthLimit, DimenTooLarge}
use Rattle.lb_base.specs.declared.glue.Order.{Order}
use Rattle.lb_base.specs.declared.glue.Order.TheVariants.{Finite, Fil, Fill, Filll}
use Rattle.lb_base.specs.declared.glue.Target.{Target}
use Rattle.lb_base.specs.declared.node.Axis.{Axis}
use Rattle.lb_base.specs.declared.node.Axis.TheVariants.{Horizontal, Vertical}
use Rattle.lb_base.specs.declared.node.Boxed.{Boxed, out-Boxed, roll-Boxed}
use Rattle.lb_base.specs.declared.node.Node.{Node}
use Rattle.lb_model_paper.specs.Boxes.{are_small_in, are_small_shifts, are_small_sums, AreSmallSums, asked_size, box_size, excess_of, IsPacked, is_small_across, IsSmallAcross, is_small_box, IsSmallBox, nesting_of_list, packed, packs, set_of, shift_after}
use Rattle.lb_model_paper.specs.Dvi.{is_small, IsSmall}
use Rattle.lb_model_paper.specs.Nodes.{natural_size, shrink_of, Size, stretch_of, total}

-- ---- tests

pub small_true : (z : ℤ) → IsSmall z → is_small z ≡ true
small_true z small = let low = small.low in let high = small.high in search (arith, ints)

pub true_small : (z : ℤ) → is_small z ≡ true → IsSmall z
true_small z passes = let both = and_parts (int_le (negsuc 1073741822) z) (int_le z (pos 1073741823)) passes in record { low = search (arith, ints); high = search (arith, ints) }

-- ---- the first parts of a list

range_all : (p : ℕ → Bool) (a n : ℕ) → list_all p (range_with_len a n) ≡ true → (k : ℕ) → k < n → p (a + k) ≡ true
range_all p a zero all k less = let no : ⊥ = omega arith in absurd no
range_all p a (suc n) all zero less = let same : a + 0 ≡ a = omega arith in ap p same ∙ (and_parts (p a) (list_all p (range_with_len (a + 1) n)) all).0
range_all p a (suc n) all (suc k) less =
    let same : a + suc k ≡ a + 1 + k = omega arith in
    let within : k < n = omega arith in
    ap p same ∙ range_all p (a + 1) n (and_parts (p a) (list_all p (range_with_len (a + 1) n)) all).1 k within

all_range : (p : ℕ → Bool) (a n : ℕ) → ((k : ℕ) → k < n → p (a + k) ≡ true) → list_all p (range_with_len a n) ≡ true
all_range p a zero each = refl
all_range p a (suc n) each =
    let first : a + 0 ≡ a = omega arith in
    let some : 0 < suc n = omega arith in
    let rest : (k : ℕ) → k < n → p (a + 1 + k) ≡ true = λ k less. (let same : a + 1 + k ≡ a + suc k = omega arith in let within : suc k < suc n = omega arith in ap p same ∙ each (suc k) within) in
    and_from (p a) (list_all p (range_with_len (a + 1) n)) (ap p (sym first) ∙ each 0 some) (all_range p (a + 1) n rest)

up_to : (p : ℕ → Bool) (n : ℕ) → list_all p (range_with_len 0 (suc n)) ≡ true → (k : ℕ) → k ≤ n → p k ≡ true
up_to p n all k within =
    let same : k ≡ 0 + k = omega arith in
    let less : k < suc n = omega arith in
    ap p same ∙ range_all p 0 (suc n) all k less

from_each : (p : ℕ → Bool) (n : ℕ) → ((k : ℕ) → k ≤ n → p k ≡ true) → list_all p (range_with_len 0 (suc n)) ≡ true
from_each p n each = all_range p 0 (suc n) (λ k less. (let same : 0 + k ≡ k = omega arith in let within : k ≤ n = omega arith in ap p same ∙ each k within))

-- ---- sums

pub record Four (a b c d : Bool) : Type 0 where
  pub first : a ≡ true
  pub second : b ≡ true
  pub third : c ≡ true
  pub fourth : d ≡ true

four : (a b c d : Bool) → (a && (b && (c && d))) ≡ true → Four a b c d
four true true true true passes = record { first = refl; second = refl; third = refl; fourth = refl }
four false b c d passes = absurd (false≢true passes)
four true false c d passes = absurd (false≢true passes)
four true true false d passes = absurd (false≢true passes)
four true true true false passes = absurd (false≢true passes)

pub record Three (a b c : Bool) : Type 0 where
  pub first : a ≡ true
  pub second : b ≡ true
  pub third : c ≡ true

three : (a b c : Bool) → (a && (b && c)) ≡ true → Three a b c
three true true true passes = record { first = refl; second = refl; third = refl }
three false b c passes = absurd (false≢true passes)
three true false c passes = absurd (false≢true passes)
three true true false passes = absurd (false≢true passes)

small_in_by : (f : Order → ℤ) → Four (is_small (f Finite)) (is_small (f Fil)) (is_small (f Fill)) (is_small (f Filll)) → (order : Order) → IsSmall (f order)
small_in_by f all Finite = true_small (f Finite) all.first
small_in_by f all Fil = true_small (f Fil) all.second
small_in_by f all Fill = true_small (f Fill) all.third
small_in_by f all Filll = true_small (f Filll) all.fourth

small_in : (f : Order → ℤ) → are_small_in f ≡ true → (order : Order) → IsSmall (f order)
small_in f passes order = small_in_by f (four (is_small (f Finite)) (is_small (f Fil)) (is_small (f Fill)) (is_small (f Filll)) passes) order

all_four : (a b c d : Bool) → a ≡ true → b ≡ true → c ≡ true → d ≡ true → (a && (b && (c && d))) ≡ true
all_four a b c d e f g h = and_from a (b && (c && d)) e (and_from b (c && d) f (and_from c d g h))

all_three : (a b c : Bool) → a ≡ true → b ≡ true → c ≡ true → (a && (b && c)) ≡ true
all_three a b c e f g = and_from a (b && c) e (and_from b c f g)

in_small : (f : Order → ℤ) → ((order : Order) → IsSmall (f order)) → are_small_in f ≡ true
in_small f small = all_four (is_small (f Finite)) (is_small (f Fil)) (is_small (f Fill)) (is_small (f Filll)) (small_true (f Finite) (small Finite)) (small_true (f Fil) (small Fil)) (small_true (f Fill) (small Fill)) (small_true (f Filll) (small Filll))

-- what is tested of the first items of a list
abbrev front_passes : Axis → List Node → Bool
front_passes axis front = is_small (natural_size axis front) && (are_small_in (λ order. total (stretch_of order) front) && are_small_in (λ order. total (shrink_of order) front))

front_three : (axis : Axis) (front : List Node) → front_passes axis front ≡ true → Three (is_small (natural_size axis front)) (are_small_in (λ order. total (stretch_of order) front)) (are_small_in (λ order. total (shrink_of order) front))
front_three axis front passes = three (is_small (natural_size axis front)) (are_small_in (λ order. total (stretch_of order) front)) (are_small_in (λ order. total (shrink_of order) front)) passes

sums_from : (axis : Axis) (nodes : List Node) → are_small_sums axis nodes ≡ true → AreSmallSums axis nodes
sums_from axis nodes passes =
    let each : (k : ℕ) → k ≤ length nodes → front_passes axis (take k nodes) ≡ true = up_to (λ (k : ℕ). front_passes axis (take k nodes)) (length nodes) passes in
    record {
      natural = λ k within. true_small (natural_size axis (take k nodes)) (front_three axis (take k nodes) (each k within)).first;
      stretch = λ order k within. small_in (λ o. total (stretch_of o) (take k nodes)) (front_three axis (take k nodes) (each k within)).second order;
      shrink = λ order k within. small_in (λ o. total (shrink_of o) (take k nodes)) (front_three axis (take k nodes) (each k within)).third order;
    }

from_sums : (axis : Axis) (nodes : List Node) → AreSmallSums axis nodes → are_small_sums axis nodes ≡ true
from_sums axis nodes small =
    from_each (λ (k : ℕ). front_passes axis (take k nodes)) (length nodes)
    (λ k within. all_three (is_small (natural_size axis (take k nodes))) (are_small_in (λ order. total (stretch_of order) (take k nodes))) (are_small_in (λ order. total (shrink_of order) (take k nodes)))
    (small_true (natural_size axis (take k nodes)) (small.natural k within)) (in_small (λ o. total (stretch_of o) (take k nodes)) (λ o. small.stretch o k within)) (in_small (λ o. total (shrink_of o) (take k nodes)) (λ o. small.shrink o k within)))

across_from : (axis : Axis) (size : Size) → is_small_across axis size ≡ true → IsSmallAcross axis size
across_from Horizontal size passes = let a = and_parts (is_small size.height) (is_small size.depth) passes in (true_small size.height a.0, true_small size.depth a.1)
across_from Vertical size passes = true_small size.width passes

from_across : (axis : Axis) (size : Size) → IsSmallAcross axis size → is_small_across axis size ≡ true
from_across Horizontal size small = and_from (is_small size.height) (is_small size.depth) (small_true size.height small.0) (small_true size.depth small.1)
from_across Vertical size small = small_true size.width small

-- ---- the test of a box

pub IsSmallBox-tested : (axis : Axis) (nodes : List Node) (target : Target) → is_small_box axis nodes target ≡ true → IsSmallBox axis nodes target
unfolding is_small_box
IsSmallBox-tested axis nodes target passes =
    let set = set_of axis nodes target in
    let a = four (are_small_sums axis nodes) (is_small (asked_size axis nodes target)) (is_small_across axis (box_size axis nodes target)) (is_small (excess_of axis nodes target) && are_small_shifts set nodes) passes in
    let b = and_parts (is_small (excess_of axis nodes target)) (are_small_shifts set nodes) a.fourth in
    record {
      sums = sums_from axis nodes a.first;
      asked = true_small (asked_size axis nodes target) a.second;
      across = across_from axis (box_size axis nodes target) a.third;
      excess = true_small (excess_of axis nodes target) b.0;
      shifts = λ k within. true_small (shift_after set nodes k) (up_to (λ (j : ℕ). is_small (shift_after set nodes j)) (length nodes) b.1 k within);
    }

pub is_small_box-true : (axis : Axis) (nodes : List Node) (target : Target) → IsSmallBox axis nodes target → is_small_box axis nodes target ≡ true
unfolding is_small_box
is_small_box-true axis nodes target small =
    let set = set_of axis nodes target in
    all_four (are_small_sums axis nodes) (is_small (asked_size axis nodes target)) (is_small_across axis (box_size axis nodes target)) (is_small (excess_of axis nodes target) && are_small_shifts set nodes)
    (from_sums axis nodes small.sums)
    (small_true (asked_size axis nodes target) small.asked)
    (from_across axis (box_size axis nodes target) small.across)
    (and_from (is_small (excess_of axis nodes target)) (are_small_shifts set nodes) (small_true (excess_of axis nodes target) small.excess)
    (from_each (λ (j : ℕ). is_small (shift_after set nodes j)) (length nodes) (λ k within. small_true (shift_after set nodes k) (small.shifts k within))))

-- ---- packing

-- by the test, and by whether the boxes nest too deep
abbrev packs_by : Bool → Bool → Boxed → Result Boxed Kind
packs_by small deep box = cond (not small) (Err DimenTooLarge) (cond deep (Err DepthLimit) (Ok box))

packs_is : (axis : Axis) (nodes : List Node) (target : Target) → packs axis nodes target ≡ packs_by (is_small_box axis nodes target) (nat_lt 500 (nesting_of_list nodes)) (packed axis nodes target)
unfolding packs
packs_is axis nodes target = refl

deep_true : (n : ℕ) → 500 < n → nat_lt 500 n ≡ true
deep_true n deep = grind (arith, common_steps)

deep_false : (n : ℕ) → n ≤ 500 → nat_lt 500 n ≡ false
deep_false n flat = grind (arith, common_steps)

pub packs-small : (axis : Axis) (nodes : List Node) (target : Target) → IsSmallBox axis nodes target → nesting_of_list nodes ≤ 500 → packs axis nodes target ≡ Ok (packed axis nodes target)
packs-small axis nodes target small flat =
    packs_is axis nodes target
    ∙ ap (λ b. packs_by b (nat_lt 500 (nesting_of_list nodes)) (packed axis nodes target)) (is_small_box-true axis nodes target small)
    ∙ ap (λ b. packs_by true b (packed axis nodes target)) (deep_false (nesting_of_list nodes) flat)

pub packs-deep : (axis : Axis) (nodes : List Node) (target : Target) → IsSmallBox axis nodes target → 500 < nesting_of_list nodes → packs axis nodes target ≡ Err DepthLimit
packs-deep axis nodes target small deep =
    packs_is axis nodes target
    ∙ ap (λ b. packs_by b (nat_lt 500 (nesting_of_list nodes)) (packed axis nodes target)) (is_small_box-true axis nodes target small)
    ∙ ap (λ b. packs_by true b (packed axis nodes target)) (deep_true (nesting_of_list nodes) deep)

large_by : (axis : Axis) (nodes : List Node) (target : Target) (b : Bool) → is_small_box axis nodes target ≡ b → (IsSmallBox axis nodes target → ⊥) → is_small_box axis nodes target ≡ false
large_by axis nodes target true is large = absurd (large (IsSmallBox-tested axis nodes target is))
large_by axis nodes target false is large = is

pub packs-large : (axis : Axis) (nodes : List Node) (target : Target) → (IsSmallBox axis nodes target → ⊥) → packs axis nodes target ≡ Err DimenTooLarge
packs-large axis nodes target large =
    packs_is axis nodes target
    ∙ ap (λ b. packs_by b (nat_lt 500 (nesting_of_list nodes)) (packed axis nodes target)) (large_by axis nodes target (is_small_box axis nodes target) refl large)

-- what is packed is the box that the relation fixes
back : (box : Boxed) → roll-Boxed (out-Boxed box) ≡ box
back box = search rules

pub packed-is : (axis : Axis) (nodes : List Node) (target : Target) (box : Boxed) → IsPacked axis nodes target box → box ≡ packed axis nodes target
packed-is axis nodes target box h =
    sym (back box)
    ∙ (λ i. roll-Boxed (record { axis = h.way i; items = h.items i; width = h.width i; height = h.height i; depth = h.depth i; shift = h.unshifted i; glue_set = h.glue_set i }))

pub IsPacked-packed : (axis : Axis) (nodes : List Node) (target : Target) → IsPacked axis nodes target (packed axis nodes target)
IsPacked-packed axis nodes target = record { way = refl; items = refl; width = refl; height = refl; depth = refl; unshifted = refl; glue_set = refl }

-- ---- what comes of a list

not_ok : {box : Boxed} (kind : Kind) → Err kind ≡ Ok box → ⊥
not_ok kind same = cc

ok_by : (axis : Axis) (nodes : List Node) (target : Target) (box : Boxed) (small deep : Bool) → packs_by small deep (packed axis nodes target) ≡ Ok box → Three small (not deep) true × (box ≡ packed axis nodes target)
ok_by axis nodes target box false deep is = absurd (not_ok DimenTooLarge is)
ok_by axis nodes target box true true is = absurd (not_ok DepthLimit is)
ok_by axis nodes target box true false is = (record { first = refl; second = refl; third = refl }, cc)

flat_of : (n : ℕ) → not (nat_lt 500 n) ≡ true → n ≤ 500
flat_of n flat = grind (arith, common_steps)

-- what is known where there is a box
pub record IsMade (axis : Axis) (nodes : List Node) (target : Target) (box : Boxed) : Type 0 where
  pub small : IsSmallBox axis nodes target
  pub flat : nesting_of_list nodes ≤ 500
  pub is : box ≡ packed axis nodes target

pub packs-ok : (axis : Axis) (nodes : List Node) (target : Target) (box : Boxed) → packs axis nodes target ≡ Ok box → IsMade axis nodes target box
packs-ok axis nodes target box made =
    let by = ok_by axis nodes target box (is_small_box axis nodes target) (nat_lt 500 (nesting_of_list nodes)) (sym (packs_is axis nodes target) ∙ made) in
    record {
      small = IsSmallBox-tested axis nodes target by.0.first;
      flat = flat_of (nesting_of_list nodes) by.0.second;
      is = by.1;
    }

pub IsPacked-ok : (axis : Axis) (nodes : List Node) (target : Target) (box : Boxed) → packs axis nodes target ≡ Ok box → IsPacked axis nodes target box
IsPacked-ok axis nodes target box made =
    let P : Boxed → Type 0 = λ b. IsPacked axis nodes target b in
    subst P (sym (packs-ok axis nodes target box made).is) (IsPacked-packed axis nodes target)

-- ---- why there is none

large_not : (axis : Axis) (nodes : List Node) (target : Target) (deep : Bool) → packs_by true deep (packed axis nodes target) ≡ Err DimenTooLarge → ⊥
large_not axis nodes target true is = cc
large_not axis nodes target false is = cc

pub large-packs : (axis : Axis) (nodes : List Node) (target : Target) → packs axis nodes target ≡ Err DimenTooLarge → IsSmallBox axis nodes target → ⊥
large-packs axis nodes target is small =
    let passes = is_small_box-true axis nodes target small in
    large_not axis nodes target (nat_lt 500 (nesting_of_list nodes)) (sym (ap (λ b. packs_by b (nat_lt 500 (nesting_of_list nodes)) (packed axis nodes target)) passes) ∙ sym (packs_is axis nodes target) ∙ is)

deep_by : (axis : Axis) (nodes : List Node) (target : Target) (small deep : Bool) → packs_by small deep (packed axis nodes target) ≡ Err DepthLimit → (small ≡ true) × (deep ≡ true)
deep_by axis nodes target false deep is = let no : ⊥ = cc in absurd no
deep_by axis nodes target true true is = (refl, refl)
deep_by axis nodes target true false is = let no : ⊥ = cc in absurd no

deep_of : (n : ℕ) → nat_lt 500 n ≡ true → 500 < n
deep_of n deep = grind (arith, common_steps)

pub deep-packs : (axis : Axis) (nodes : List Node) (target : Target) → packs axis nodes target ≡ Err DepthLimit → IsSmallBox axis nodes target × (500 < nesting_of_list nodes)
deep-packs axis nodes target is =
    let by = deep_by axis nodes target (is_small_box axis nodes target) (nat_lt 500 (nesting_of_list nodes)) (sym (packs_is axis nodes target) ∙ is) in
    (IsSmallBox-tested axis nodes target by.0, deep_of (nesting_of_list nodes) by.1)

-- ---- as the code comes to them

pub packs-made : (axis : Axis) (nodes : List Node) (target : Target) (box : Boxed) → IsSmallBox axis nodes target → nesting_of_list nodes ≤ 500 → IsPacked axis nodes target box → packs axis nodes target ≡ Ok box
packs-made axis nodes target box small flat p = packs-small axis nodes target small flat ∙ ap (λ (b : Boxed). Ok b) (sym (packed-is axis nodes target box p))

pub past_limit : (n : ℕ) → (n ≤ 499 → ⊥) → 500 < suc n
past_limit n more = omega arith

pub within_limit : (n : ℕ) → n ≤ 499 → suc n ≤ 500
within_limit n within = omega arith
