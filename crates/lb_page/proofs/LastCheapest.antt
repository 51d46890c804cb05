-- The place at which a page ends.
use Rattle.std.proofs.Common.{◌≡◌, ◌∙◌, ◌<◌, ap, sym, refl, subst, ℕ, zero, suc, Bool, true, false, List, length, take, Option, None, Some, Ok, Err, ℤ, int_le, if◌then◌else◌, option_map, arith}
use Rattle.std.proofs.lemmas.Int.{ints}
use Rattle.lb_base.specs.declared.fault.Kind.{Kind}
use Rattle.lb_base.specs.declared.node.Node.{Node}
use Rattle.lb_model_paper.specs.declared.pages.Cost.{Cost}
use Rattle.lb_model_paper.specs.declared.pages.Cost.TheVariants.{Number, Awful}
use Rattle.lb_model_paper.specs.declared.pages.PageRules.{PageRules}
use Rattle.lb_model_paper.specs.Pages.{are_small_on_page, best_place, cheaper_of, cost_at, cost_of, costs_at_most, ends_in, first_below, is_ending, last_cheapest, on_page, page_end, page_end_by, penalty_at, search_end}
use Rattle.lb_page.specs.Laws.{IsLastCheapest, IsSearchEnd}

-- ---- costs

int_le-refl : (a : ℤ) → int_le a a ≡ true
int_le-refl a = search (arith, ints)

int_le-trans : (a b c : ℤ) → int_le a b ≡ true → int_le b c ≡ true → int_le a c ≡ true
int_le-trans a b c low high = search (arith, ints)

int_le-total : (a b : ℤ) → int_le a b ≡ false → int_le b a ≡ true
int_le-total a b more = search (arith, ints)

at_most-refl : (c : Cost) → costs_at_most c c ≡ true
at_most-refl Awful = refl
at_most-refl (Number c) = int_le-refl c

at_most-trans : (a b c : Cost) → costs_at_most a b ≡ true → costs_at_most b c ≡ true → costs_at_most a c ≡ true
at_most-trans a b Awful low high = refl
at_most-trans a Awful (Number c) low high = absurd cc
at_most-trans Awful (Number b) (Number c) low high = absurd cc
at_most-trans (Number a) (Number b) (Number c) low high = int_le-trans a b c low high

at_most-total : (a b : Cost) → costs_at_most a b ≡ false → costs_at_most b a ≡ true
at_most-total Awful b more = refl
at_most-total (Number a) Awful more = absurd cc
at_most-total (Number a) (Number b) more = int_le-total a b more

-- ---- one number more

below_or_at : (P : ℕ → Type 0) (j n : ℕ) → j < suc n → ((i : ℕ) → i < n → P i) → P n → P j
below_or_at P zero zero lt below here = here
below_or_at P zero (suc n) lt below here = below zero (omega arith)
below_or_at P (suc j) zero lt below here = absurd (omega arith)
below_or_at P (suc j) (suc n) lt below here = below_or_at (λ i. P (suc i)) j n (omega arith) (λ i small. below (suc i) (omega arith)) here

-- ---- the last cheapest

record IsLeast (cost : ℕ → Option Cost) (n k : ℕ) : Type 0 where
  within : k < n
  price : Cost
  costs : cost k ≡ Some price
  least : (j : ℕ) → j < n → (other : Cost) → cost j ≡ Some other → costs_at_most price other ≡ true
  last : (j : ℕ) → j < n → k < j → (other : Cost) → cost j ≡ Some other → costs_at_most other price ≡ false

abbrev IsBestOf : (ℕ → Option Cost) → ℕ → Option ℕ → Type 0
IsBestOf cost n None = (j : ℕ) → j < n → cost j ≡ None
IsBestOf cost n (Some k) = IsLeast cost n k

same_cost : (a b : Cost) (o : Option Cost) → o ≡ Some a → o ≡ Some b → a ≡ b
same_cost a b o x y = cc

none_some : {R : Type 0} (a : Cost) (o : Option Cost) → o ≡ None → o ≡ Some a → R
none_some a o x y = absurd cc

first_place : (cost : ℕ → Option Cost) (n : ℕ) (here : Cost) → cost n ≡ Some here → ((j : ℕ) → j < n → cost j ≡ None) → IsLeast cost (suc n) n
first_place cost n here is none = record {
  within = omega arith;
  price = here;
  costs = is;
  least = λ j within. below_or_at (λ i. (other : Cost) → cost i ≡ Some other → costs_at_most here other ≡ true) j n within
      (λ i small other costs. none_some other (cost i) (none i small) costs)
      (λ other costs. ap (costs_at_most here) (same_cost other here (cost n) costs is) ∙ at_most-refl here);
  last = λ j within behind other costs. absurd (omega arith);
}

taken_place : (cost : ℕ → Option Cost) (n k : ℕ) (here : Cost) → cost n ≡ Some here → (best : IsLeast cost n k) → costs_at_most here best.price ≡ true → IsLeast cost (suc n) n
taken_place cost n k here is best cheap = record {
  within = omega arith;
  price = here;
  costs = is;
  least = λ j within. below_or_at (λ i. (other : Cost) → cost i ≡ Some other → costs_at_most here other ≡ true) j n within
      (λ i small other costs. at_most-trans here best.price other cheap (best.least i small other costs))
      (λ other costs. ap (costs_at_most here) (same_cost other here (cost n) costs is) ∙ at_most-refl here);
  last = λ j within behind other costs. absurd (omega arith);
}

left_place : (cost : ℕ → Option Cost) (n k : ℕ) (here : Cost) → cost n ≡ Some here → (best : IsLeast cost n k) → costs_at_most here best.price ≡ false → IsLeast cost (suc n) k
left_place cost n k here is best dear = record {
  within = let small = best.within in omega arith;
  price = best.price;
  costs = best.costs;
  least = λ j within. below_or_at (λ i. (other : Cost) → cost i ≡ Some other → costs_at_most best.price other ≡ true) j n within
      (λ i small other costs. best.least i small other costs)
      (λ other costs. ap (costs_at_most best.price) (same_cost other here (cost n) costs is) ∙ at_most-total here best.price dear);
  last = λ j within. below_or_at (λ i. k < i → (other : Cost) → cost i ≡ Some other → costs_at_most other best.price ≡ false) j n within
      (λ i small behind other costs. best.last i small behind other costs)
      (λ behind other costs. ap (λ (c : Cost). costs_at_most c best.price) (same_cost other here (cost n) costs is) ∙ dear);
}

no_place : (cost : ℕ → Option Cost) (n k : ℕ) → cost n ≡ None → IsLeast cost n k → IsLeast cost (suc n) k
no_place cost n k none best = record {
  within = let small = best.within in omega arith;
  price = best.price;
  costs = best.costs;
  least = λ j within. below_or_at (λ i. (other : Cost) → cost i ≡ Some other → costs_at_most best.price other ≡ true) j n within
      (λ i small other costs. best.least i small other costs)
      (λ other costs. none_some other (cost n) none costs);
  last = λ j within. below_or_at (λ i. k < i → (other : Cost) → cost i ≡ Some other → costs_at_most other best.price ≡ false) j n within
      (λ i small behind other costs. best.last i small behind other costs)
      (λ behind other costs. none_some other (cost n) none costs);
}

judged : (cost : ℕ → Option Cost) (n k : ℕ) (here : Cost) (b : Bool) → cost n ≡ Some here → (best : IsLeast cost n k) → costs_at_most here best.price ≡ b → IsBestOf cost (suc n) (if b then Some n else Some k)
judged cost n k here true is best cheap = taken_place cost n k here is best cheap
judged cost n k here false is best dear = left_place cost n k here is best dear

against : (cost : ℕ → Option Cost) (n k : ℕ) (here price : Cost) → cost k ≡ Some price → cheaper_of cost (Some k) n (Some here) ≡ (if costs_at_most here price then Some n else Some k)
against cost n k here price is = ap (λ (o : Option Cost). cheaper_of (λ _. o) (Some k) n (Some here)) is

best_turn : (cost : ℕ → Option Cost) (n : ℕ) (best : Option ℕ) (here : Option Cost) → cost n ≡ here → IsBestOf cost n best → IsBestOf cost (suc n) (cheaper_of cost best n here)
best_turn cost n None None is best = λ j within. below_or_at (λ i. cost i ≡ None) j n within best is
best_turn cost n (Some k) None is best = no_place cost n k is best
best_turn cost n None (Some here) is best = first_place cost n here is best
best_turn cost n (Some k) (Some here) is best =
    subst (IsBestOf cost (suc n)) (sym (against cost n k here best.price best.costs)) (judged cost n k here (costs_at_most here best.price) is best refl)

best_of : (cost : ℕ → Option Cost) (n : ℕ) → IsBestOf cost n (last_cheapest cost n)
best_of cost zero = λ j within. absurd (omega arith)
best_of cost (suc n) = best_turn cost n (last_cheapest cost n) (cost n) refl (best_of cost n)

-- ---- the end of the search

record IsFirst (test : ℕ → Bool) (n k : ℕ) : Type 0 where
  within : k < n
  passes : test k ≡ true
  first : (j : ℕ) → j < k → test j ≡ false

abbrev IsFirstOf : (ℕ → Bool) → ℕ → Option ℕ → Type 0
IsFirstOf test n None = (j : ℕ) → j < n → test j ≡ false
IsFirstOf test n (Some k) = IsFirst test n k

tested : (test : ℕ → Bool) (n : ℕ) (b : Bool) → test n ≡ b → ((j : ℕ) → j < n → test j ≡ false) → IsFirstOf test (suc n) (if b then Some n else None)
tested test n true is none = record { within = omega arith; passes = is; first = none }
tested test n false is none = λ j within. below_or_at (λ i. test i ≡ false) j n within none is

first_turn : (test : ℕ → Bool) (n : ℕ) (found : Option ℕ) → IsFirstOf test n found → IsFirstOf test (suc n) (elim found [ Some k ↦ Some k | None ↦ if test n then Some n else None ])
first_turn test n (Some k) is = record { within = let small = is.within in omega arith; passes = is.passes; first = is.first }
first_turn test n None is = tested test n (test n) refl is

first_of : (test : ℕ → Bool) (n : ℕ) → IsFirstOf test n (first_below test n)
first_of test zero = λ j within. absurd (omega arith)
first_of test (suc n) = first_turn test n (first_below test n) (first_of test n)

-- ---- where a page ends

ends_some : (o : Option Cost) → ends_in o ≡ true → (cost : Cost) × ((o ≡ Some cost) × (is_ending cost ≡ true))
ends_some None ends = absurd cc
ends_some (Some cost) ends = (cost, (refl, ends))

not_ending : (o : Option Cost) (cost : Cost) → ends_in o ≡ false → o ≡ Some cost → is_ending cost ≡ false
not_ending o cost ends is = ap ends_in (sym is) ∙ ends

search_ended : (rules : PageRules) (nodes : List Node) (last : ℕ) → search_end rules nodes (length nodes) ≡ Some last → IsSearchEnd rules nodes last
unfolding search_end
search_ended rules nodes last is =
    let test : ℕ → Bool = λ k. ends_in (cost_at rules nodes k) in
    let found : IsFirst test (length nodes) last = subst (IsFirstOf test (length nodes)) is (first_of test (length nodes)) in
    record {
      within = found.within;
      ends = ends_some (cost_at rules nodes last) found.passes;
      first = λ j cost before costs. not_ending (cost_at rules nodes j) cost (found.first j before) costs;
    }

legal_by : (penalty : Option ℤ) (f : ℤ → Cost) (cost : Cost) → option_map f penalty ≡ Some cost → (p : ℤ) × (penalty ≡ Some p)
legal_by None f cost is = absurd cc
legal_by (Some p) f cost is = (p, refl)

legal : (rules : PageRules) (nodes : List Node) (k : ℕ) (cost : Cost) → cost_at rules nodes k ≡ Some cost → (p : ℤ) × (penalty_at nodes k ≡ Some p)
unfolding cost_at
legal rules nodes k cost is = legal_by (penalty_at nodes k) (cost_of rules (on_page rules (take k nodes))) cost is

cheapest : (rules : PageRules) (nodes : List Node) (n k : ℕ) → best_place rules nodes n ≡ Some k → IsLastCheapest rules nodes n k
unfolding best_place
cheapest rules nodes n k is =
    let found : IsLeast (cost_at rules nodes) n k = subst (IsBestOf (cost_at rules nodes) n) is (best_of (cost_at rules nodes) n) in
    record {
      within = found.within;
      legal = legal rules nodes k found.price found.costs;
      cost = found.price;
      costs = found.costs;
      least = λ j other within costs. found.least j within other costs;
      last = λ j other behind within costs. found.last j within behind other costs;
    }

abbrev IsChosen : PageRules → List Node → ℕ → Type 0
IsChosen rules nodes k = (last : ℕ) × (IsSearchEnd rules nodes last × IsLastCheapest rules nodes (suc last) k)

small_then : (b : Bool) (o : Option ℕ) (k : ℕ) → (if b then Ok o else Err Kind.DimenTooLarge) ≡ Ok (Some k) → o ≡ Some k
small_then true o k is = cc
small_then false o k is = absurd cc

chosen_by : (rules : PageRules) (nodes : List Node) (k : ℕ) (end : Option ℕ) → search_end rules nodes (length nodes) ≡ end → page_end_by rules nodes end ≡ Ok (Some k) → IsChosen rules nodes k
chosen_by rules nodes k None ends is = let none : None ≡ Some k = small_then (are_small_on_page rules nodes) None k is in absurd cc
chosen_by rules nodes k (Some last) ends is =
    (last, (search_ended rules nodes last ends, cheapest rules nodes (suc last) k (small_then (are_small_on_page rules (take (suc last) nodes)) (best_place rules nodes (suc last)) k is)))

pub chosen : (rules : PageRules) (nodes : List Node) (k : ℕ) → page_end rules nodes ≡ Ok (Some k) → IsChosen rules nodes k
unfolding page_end
chosen rules nodes k is = chosen_by rules nodes k (search_end rules nodes (length nodes)) refl is

-- ---- an awful place

no_less : (cost : Cost) → is_ending cost ≡ false → costs_at_most Awful cost ≡ true → ⊥
no_less Awful ends most = cc
no_less (Number cost) ends most = cc

none_before : (penalty : Option ℤ) (f : ℤ → Cost) → ((cost : Cost) → option_map f penalty ≡ Some cost → ⊥) → penalty ≡ None
none_before None f never = refl
none_before (Some p) f never = absurd (never (f p) refl)

no_penalty : (rules : PageRules) (nodes : List Node) (j : ℕ) → ((cost : Cost) → cost_at rules nodes j ≡ Some cost → ⊥) → penalty_at nodes j ≡ None
unfolding cost_at
no_penalty rules nodes j never = none_before (penalty_at nodes j) (cost_of rules (on_page rules (take j nodes))) never

pub awful : (rules : PageRules) (nodes : List Node) (k : ℕ) → page_end rules nodes ≡ Ok (Some k) → cost_at rules nodes k ≡ Some Awful → (j : ℕ) → j < k → penalty_at nodes j ≡ None
awful rules nodes k is costs j before =
    let choice = chosen rules nodes k is in
    let ended = choice.1.0 in
    let best = choice.1.1 in
    let price : best.cost ≡ Awful = same_cost best.cost Awful (cost_at rules nodes k) best.costs costs in
    let low = best.within in
    let sooner : j < choice.0 = omega arith in
    let within : j < suc choice.0 = omega arith in
    no_penalty rules nodes j (λ cost there. no_less cost (ended.first j cost sooner there) (ap (λ (c : Cost). costs_at_most c cost) (sym price) ∙ best.least j cost within there))
