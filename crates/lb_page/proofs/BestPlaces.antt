-- The best place so far, one item more.
use Rattle.std.proofs.Common.{◌≡◌, ◌∙◌, ap, sym, refl, ℕ, suc, Bool, true, false, List, Option, None, Some, if◌then◌else◌}
use Rattle.lb_base.specs.declared.node.Node.{Node}
use Rattle.lb_model_paper.specs.declared.pages.Cost.{Cost}
use Rattle.lb_model_paper.specs.declared.pages.PageRules.{PageRules}
use Rattle.lb_model_paper.specs.Pages.{best_place, cheaper_of, cost_at, costs_at_most}
use Rattle.lb_page.specs.declared.best.Cut.{Cut}
use Rattle.lb_page.specs.Places.{IsBest, IsCut}

best_place-suc : (rules : PageRules) (nodes : List Node) (n : ℕ) → best_place rules nodes (suc n) ≡ cheaper_of (cost_at rules nodes) (best_place rules nodes n) n (cost_at rules nodes n)
unfolding best_place
best_place-suc rules nodes n = refl

-- the item is no place
pub IsBest-none : (rules : PageRules) (nodes : List Node) (n : ℕ) (best : Option Cut) → IsBest rules nodes n best → cost_at rules nodes n ≡ None → IsBest rules nodes (suc n) best
IsBest-none rules nodes n best is none = record {
  place = best_place-suc rules nodes n ∙ ap (cheaper_of (cost_at rules nodes) (best_place rules nodes n) n) none ∙ is.place;
  cut = is.cut;
}

here_at : (rules : PageRules) (nodes : List Node) (n : ℕ) (here : Cut) → IsCut rules nodes here → here.at ≡ n → cost_at rules nodes n ≡ Some here.cost
here_at rules nodes n here cut at = ap (cost_at rules nodes) (sym at) ∙ cut.cost

-- it is the first place
pub IsBest-first : (rules : PageRules) (nodes : List Node) (n : ℕ) (here : Cut) → IsBest rules nodes n None → IsCut rules nodes here → here.at ≡ n → IsBest rules nodes (suc n) (Some here)
IsBest-first rules nodes n here is cut at = record {
  place = best_place-suc rules nodes n ∙ ap (λ (o : Option ℕ). cheaper_of (cost_at rules nodes) o n (cost_at rules nodes n)) is.place ∙ ap (cheaper_of (cost_at rules nodes) None n) (here_at rules nodes n here cut at) ∙ ap Some (sym at);
  cut = cut;
}

-- it costs no more than the best, or more
against : (rules : PageRules) (nodes : List Node) (n : ℕ) (there here : Cut) (b : Bool) → IsBest rules nodes n (Some there) → IsCut rules nodes here → here.at ≡ n → costs_at_most here.cost there.cost ≡ b → best_place rules nodes (suc n) ≡ (if b then Some n else Some there.at)
against rules nodes n there here b is cut at costs =
    best_place-suc rules nodes n
    ∙ ap (λ (o : Option ℕ). cheaper_of (cost_at rules nodes) o n (cost_at rules nodes n)) is.place
    ∙ ap (cheaper_of (cost_at rules nodes) (Some there.at) n) (here_at rules nodes n here cut at)
    ∙ ap (λ (o : Option Cost). cheaper_of (λ _. o) (Some there.at) n (Some here.cost)) is.cut.cost
    ∙ ap (λ (c : Bool). if c then Some n else Some there.at) costs

pub IsBest-taken : (rules : PageRules) (nodes : List Node) (n : ℕ) (there here : Cut) → IsBest rules nodes n (Some there) → IsCut rules nodes here → here.at ≡ n → costs_at_most here.cost there.cost ≡ true → IsBest rules nodes (suc n) (Some here)
IsBest-taken rules nodes n there here is cut at costs = record { place = against rules nodes n there here true is cut at costs ∙ ap Some (sym at); cut = cut }

pub IsBest-left : (rules : PageRules) (nodes : List Node) (n : ℕ) (there here : Cut) → IsBest rules nodes n (Some there) → IsCut rules nodes here → here.at ≡ n → costs_at_most here.cost there.cost ≡ false → IsBest rules nodes (suc n) (Some there)
IsBest-left rules nodes n there here is cut at costs = record { place = against rules nodes n there here false is cut at costs; cut = is.cut }
