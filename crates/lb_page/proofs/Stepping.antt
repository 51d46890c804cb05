-- One item more is judged.
use Rattle.std.proofs.Common.{◌≡◌, ◌∙◌, ap, sym, subst, refl, ℕ, suc, ◌<◌, ◌≤◌, Bool, true, false, List, [], ◌∷◌, ◌++◌, length, take, Option, None, Some, ℤ, ◌-ℤ◌, if◌then◌else◌, add-one, arith}
use Rattle.std.proofs.lemmas.List.{take_more}
use Rattle.std.proofs.lemmas.Option.{get_or_from_slice_get, slice_get_within}
use Rattle.std.specs.Prelude.{option_map, slice_get}
use Rattle.lb_base.specs.declared.glue.Order.{Order}
use Rattle.lb_base.specs.declared.glue.Order.TheVariants.{Finite, Fil, Fill, Filll}
use Rattle.lb_base.specs.declared.node.Node.{Node}
use Rattle.lb_model_paper.specs.declared.pages.Cost.{Cost}
use Rattle.lb_model_paper.specs.declared.pages.PageRules.{PageRules}
use Rattle.lb_model_paper.specs.Nodes.{shrink_of, stretch_of, total}
use Rattle.lb_model_paper.specs.Pages.{are_small_on_page, badness_to, cost_at, cost_by, cost_of, ends_in, hangs, is_begun, is_firm, is_glue, on_page, page_goal, page_total, penalty_at, penalty_of, search_end}
use Rattle.lb_page.specs.declared.best.Cut.{Cut}
use Rattle.lb_page.specs.declared.search.Search.{Search}
use Rattle.lb_page.specs.declared.search.State.{State}
use Rattle.std.specs.Bool.{OnTrue}
use Rattle.lb_page.specs.declared.so_far.SoFar.{SoFar}
use Rattle.lb_page.specs.declared.sums.Sums.{Sums}
use Rattle.lb_page.specs.Places.{closing_width, cost_of_cut, IsBest, IsCut, IsPlace}
use Rattle.lb_page.specs.Searches.{IsGoing, IsJudged, IsJudgedAs, IsNext, IsReady, IsReadyAs, state_of}
use Rattle.lb_page.specs.SoFar.{IsSoFar}
use Rattle.lb_page.specs.Sums.{amount_in, AreReadyBy, AreSums, cost_in, goal_in}

-- ---- costs

badness-same : (e : ℤ) (s h f g : Order → ℤ) → ((o : Order) → s o ≡ f o) → ((o : Order) → h o ≡ g o) → badness_to e s h ≡ badness_to e f g
unfolding badness_to
badness-same e s h f g p q = cc (p Finite, p Fil, p Fill, p Filll, q Finite, q Fil, q Fill, q Filll)

pub goal-is : (rules : PageRules) (page : List Node) (sums : Sums) → AreSums page sums → goal_in rules sums ≡ page_goal rules page
goal-is rules page sums are = cc (are.has_foot, are.feet_size)

pub cost-is : (rules : PageRules) (page : List Node) (sums : Sums) (penalty : ℤ) → AreSums page sums → cost_in rules sums penalty ≡ cost_of rules page penalty
unfolding cost_of
cost-is rules page sums penalty are =
    let excess : goal_in rules sums -ℤ (sums.room -ℤ hangs rules sums.hanging) ≡ page_goal rules page -ℤ page_total rules page = cc (goal-is rules page sums are, are.room, are.hanging) in
    ap (λ (z : ℤ). cost_by penalty (badness_to z (amount_in sums.stretch) (amount_in sums.shrink))) excess
    ∙ ap (cost_by penalty) (badness-same _ (amount_in sums.stretch) (amount_in sums.shrink) (λ order. total (stretch_of order) page) (λ order. total (shrink_of order) page) are.stretch are.shrink)

pub cost_at-some : (rules : PageRules) (nodes : List Node) (k : ℕ) (penalty : ℤ) → penalty_at nodes k ≡ Some penalty → cost_at rules nodes k ≡ Some (cost_of rules (on_page rules (take k nodes)) penalty)
unfolding cost_at
cost_at-some rules nodes k penalty is = ap (option_map (cost_of rules (on_page rules (take k nodes)))) is

pub cost_at-none : (rules : PageRules) (nodes : List Node) (k : ℕ) → penalty_at nodes k ≡ None → cost_at rules nodes k ≡ None
unfolding cost_at
cost_at-none rules nodes k is = ap (option_map (cost_of rules (on_page rules (take k nodes)))) is

-- ---- the search

search_end-suc : (rules : PageRules) (nodes : List Node) (k : ℕ) (b : Bool) → search_end rules nodes k ≡ None → ends_in (cost_at rules nodes k) ≡ b → search_end rules nodes (suc k) ≡ (if b then Some k else None)
unfolding search_end
search_end-suc rules nodes k b none ends =
    ap (λ (o : Option ℕ). elim o [ Some j ↦ Some j | None ↦ if ends_in (cost_at rules nodes k) then Some k else None ]) none ∙ ap (λ (c : Bool). if c then Some k else None) ends

place_cost : (rules : PageRules) (nodes : List Node) (k : ℕ) (place : Option Cut) → IsPlace rules nodes k place → cost_at rules nodes k ≡ option_map cost_of_cut place
place_cost rules nodes k None none = none
place_cost rules nodes k (Some cut) is = ap (cost_at rules nodes) (sym is.1) ∙ is.0.cost

pub take-next : (nodes : List Node) (k : ℕ) (node : Node) → slice_get nodes k ≡ Some node → take (suc k) nodes ≡ take k nodes ++ node ∷ []
take-next nodes k node is =
    let within : k < length nodes = slice_get_within nodes k node is in
    ap (λ (n : ℕ). take n nodes) (sym (add-one k)) ∙ take_more nodes k node within ∙ ap (λ (n : Node). take k nodes ++ n ∷ []) (get_or_from_slice_get nodes k node node is)

-- the search behind the item
pub IsJudged-step : (nodes : List Node) (old new : Search) (node : Node) (place : Option Cut) (small ends : Bool) → IsGoing nodes old → slice_get nodes old.at ≡ Some node → IsPlace old.rules nodes old.at place → IsBest old.rules nodes (suc old.at) new.best → new.rules ≡ old.rules → new.at ≡ suc old.at → ends ≡ ends_in (option_map cost_of_cut place) → small ≡ are_small_on_page old.rules (take old.at nodes ++ node ∷ []) → (small ≡ true → IsSoFar old.rules (take old.at nodes ++ node ∷ []) new.so_far) → IsJudgedAs (state_of small ends) nodes new
IsJudged-step nodes old new node place false ends going item is best rules at end sums so_far =
    let within : new.at ≤ length nodes = omega (arith, slice_get_within nodes old.at node item) in
    record {
      within = within;
      last = (old.at, at, ap (λ (r : PageRules). search_end r nodes old.at) rules ∙ going.none);
      large = ap (λ (r : PageRules). are_small_on_page r (take new.at nodes)) rules ∙ ap (λ (n : ℕ). are_small_on_page old.rules (take n nodes)) at ∙ ap (are_small_on_page old.rules) (take-next nodes old.at node item) ∙ sym sums;
    }
IsJudged-step nodes old new node place true true going item is best rules at end sums so_far =
    let within : new.at ≤ length nodes = omega (arith, slice_get_within nodes old.at node item) in
    let ends : ends_in (cost_at old.rules nodes old.at) ≡ true = ap ends_in (place_cost old.rules nodes old.at place is) ∙ sym end in
    record {
      within = within;
      last = (old.at, at, ap (λ (r : PageRules). search_end r nodes new.at) rules ∙ ap (search_end old.rules nodes) at ∙ search_end-suc old.rules nodes old.at true going.none ends);
      small = ap (λ (r : PageRules). are_small_on_page r (take new.at nodes)) rules ∙ ap (λ (n : ℕ). are_small_on_page old.rules (take n nodes)) at ∙ ap (are_small_on_page old.rules) (take-next nodes old.at node item) ∙ sym sums;
      best = subst (λ (r : PageRules). IsBest r nodes new.at new.best) (sym rules) (subst (λ (n : ℕ). IsBest old.rules nodes n new.best) (sym at) best);
    }
IsJudged-step nodes old new node place true false going item is best rules at end sums so_far =
    let within : new.at ≤ length nodes = omega (arith, slice_get_within nodes old.at node item) in
    let ends : ends_in (cost_at old.rules nodes old.at) ≡ false = ap ends_in (place_cost old.rules nodes old.at place is) ∙ sym end in
    let front : take new.at nodes ≡ take old.at nodes ++ node ∷ [] = ap (λ (n : ℕ). take n nodes) at ∙ take-next nodes old.at node item in
    record {
      within = within;
      so_far = subst (λ (r : PageRules). IsSoFar r (take new.at nodes) new.so_far) (sym rules) (subst (λ (ns : List Node). IsSoFar old.rules ns new.so_far) (sym front) (so_far refl));
      small = ap (λ (r : PageRules). are_small_on_page r (take new.at nodes)) rules ∙ ap (are_small_on_page old.rules) front ∙ sym sums;
      none = ap (λ (r : PageRules). search_end r nodes new.at) rules ∙ ap (search_end old.rules nodes) at ∙ search_end-suc old.rules nodes old.at false going.none ends;
      best = subst (λ (r : PageRules). IsBest r nodes new.at new.best) (sym rules) (subst (λ (n : ℕ). IsBest old.rules nodes n new.best) (sym at) best);
    }

pub IsJudged-by : (nodes : List Node) (old new : Search) (node : Node) (place : Option Cut) (small ends : Bool) → new.state ≡ state_of small ends → IsGoing nodes old → slice_get nodes old.at ≡ Some node → IsPlace old.rules nodes old.at place → IsBest old.rules nodes (suc old.at) new.best → new.rules ≡ old.rules → new.at ≡ suc old.at → ends ≡ ends_in (option_map cost_of_cut place) → small ≡ are_small_on_page old.rules (take old.at nodes ++ node ∷ []) → (small ≡ true → IsSoFar old.rules (take old.at nodes ++ node ∷ []) new.so_far) → IsJudged nodes new
IsJudged-by nodes old new node place small ends state going item is best rules at end sums so_far =
    subst (λ (st : State). IsJudgedAs st nodes new) (sym state) (IsJudged-step nodes old new node place small ends going item is best rules at end sums so_far)

ready_as : (small ends : Bool) (search : Search) → OnTrue small (AreReadyBy search.rules search.so_far.sums) → IsReadyAs (state_of small ends) search
ready_as false ends search ready = tt
ready_as true true search ready = tt
ready_as true false search ready = ready

pub IsReady-by : (small ends : Bool) (search : Search) → search.state ≡ state_of small ends → OnTrue small (AreReadyBy search.rules search.so_far.sums) → IsReady search
IsReady-by small ends search state ready = subst (λ (st : State). IsReadyAs st search) (sym state) (ready_as small ends search ready)

-- ---- the place at an item

pub penalty-next : (nodes : List Node) (at : ℕ) (node : Node) (before_glue : Bool) (so_far : SoFar) (rules : PageRules) (penalty : Option ℤ) → IsNext nodes at node before_glue → IsSoFar rules (take at nodes) so_far → ((before : List Node) (next : Option Node) → so_far.begun ≡ is_begun before → so_far.firm ≡ is_firm before → before_glue ≡ is_glue next → penalty ≡ penalty_of before (Some node) next) → penalty_at nodes at ≡ penalty
penalty-next nodes at node before_glue so_far rules penalty next is place =
    sym next.next.2 ∙ sym (place (take at nodes) next.next.0 is.begun is.firm next.next.1)

pub IsCut-here : (rules : PageRules) (nodes : List Node) (at : ℕ) (node : Node) (so_far : SoFar) (penalty : ℤ) (cost : Cost) (closing : Option ℤ) (goal : ℤ) → slice_get nodes at ≡ Some node → IsSoFar rules (take at nodes) so_far → penalty_at nodes at ≡ Some penalty → cost ≡ cost_in rules so_far.sums penalty → closing ≡ option_map (closing_width rules) so_far.sums.hanging → goal ≡ goal_in rules so_far.sums → IsCut rules nodes (record { at = at; cost = cost; top = so_far.top; closing = closing; goal = goal })
IsCut-here rules nodes at node so_far penalty cost closing goal item is place costs closes goals =
    let page = on_page rules (take at nodes) in
    record {
      within = slice_get_within nodes at node item;
      cost = cost_at-some rules nodes at penalty place ∙ ap Some (sym (costs ∙ cost-is rules page so_far.sums penalty is.sums));
      page = record {
        top = is.top;
        closing = closes ∙ ap (option_map (closing_width rules)) is.sums.hanging;
        goal = goals ∙ goal-is rules page so_far.sums is.sums;
      };
    }
