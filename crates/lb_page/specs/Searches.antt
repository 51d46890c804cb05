-- How far a search for the end of a page has come.
use Rattle.std.specs.Prelude.{◌≡◌, ℕ, suc, ◌≤◌, Bool, true, false, List, ◌++◌, ◌⊎◌, IfSome, Option, None, Some, take, length, slice_get, ⊤}
use Rattle.lb_base.specs.declared.node.Node.{Node}
use Rattle.lb_model_paper.specs.Pages.{are_small_on_page, is_glue, penalty_at, penalty_of, search_end}
use Rattle.lb_page.specs.declared.search.Search.{Search}
use Rattle.lb_page.specs.declared.search.State.{State}
use Rattle.lb_page.specs.declared.search.State.TheVariants.{Going, Ended, TooLarge}
use Rattle.lb_page.specs.Places.{IsBest}
use Rattle.lb_page.specs.SoFar.{IsSoFar}
use Rattle.lb_page.specs.Sums.{AreReadyBy}

abbrev pub state_of : Bool → Bool → State
state_of false ends = TooLarge
state_of true true = Ended
state_of true false = Going

-- no place has ended the search so far, and all sums are small
pub record IsGoing (nodes : List Node) (search : Search) : Type 0 where
  pub within : search.at ≤ length nodes
  pub so_far : IsSoFar search.rules (take search.at nodes) search.so_far
  pub small : are_small_on_page search.rules (take search.at nodes) ≡ true
  pub none : search_end search.rules nodes search.at ≡ None
  pub best : IsBest search.rules nodes search.at search.best

-- the last item that was judged ended it
pub record IsEnded (nodes : List Node) (search : Search) : Type 0 where
  pub within : search.at ≤ length nodes
  pub last : (k : ℕ) × (search.at ≡ suc k) × (search_end search.rules nodes search.at ≡ Some k)
  pub small : are_small_on_page search.rules (take search.at nodes) ≡ true
  pub best : IsBest search.rules nodes search.at search.best

-- the sums through the last item are not small, and no place before it ended the search
pub record IsLarge (nodes : List Node) (search : Search) : Type 0 where
  pub within : search.at ≤ length nodes
  pub last : (k : ℕ) × (search.at ≡ suc k) × (search_end search.rules nodes k ≡ None)
  pub large : are_small_on_page search.rules (take search.at nodes) ≡ false

abbrev pub IsJudgedAs : State → List Node → Search → Type 0
IsJudgedAs Going nodes search = IsGoing nodes search
IsJudgedAs Ended nodes search = IsEnded nodes search
IsJudgedAs TooLarge nodes search = IsLarge nodes search

abbrev pub IsJudged : List Node → Search → Type 0
IsJudged nodes search = IsJudgedAs search.state nodes search

-- an item of a list, and whether glue stands behind it, as far as that counts
pub record IsNext (nodes : List Node) (at : ℕ) (node : Node) (before_glue : Bool) : Type 0 where
  pub item : slice_get nodes at ≡ Some node
  pub next : (next : Option Node) × (before_glue ≡ is_glue next) × (penalty_of (take at nodes) (Some node) next ≡ penalty_at nodes at)

-- a search that goes on can sum up one more item
abbrev pub IsReadyAs : State → Search → Type 0
IsReadyAs Going search = AreReadyBy search.rules search.so_far.sums
IsReadyAs _ search = ⊤

abbrev pub IsReady : Search → Type 0
IsReady search = IsReadyAs search.state search

-- whatever is contributed behind a list, so far the search is right
abbrev pub IsRight : List Node → Search → Type 0
IsRight nodes search = (more : List Node) → IsJudged (nodes ++ more) search

abbrev pub IsKept : List Node → Option Search → Type 0
IsKept nodes search = IfSome search (λ s. IsReady s × IsRight nodes s)

-- there is no item to be judged, or it waits for the next one
abbrev pub IsLast : List Node → ℕ → Type 0
IsLast nodes at = (length nodes ≤ at) ⊎ ((suc at ≡ length nodes) × (penalty_at nodes at ≡ None))

-- the search has come as far as it can
abbrev pub IsDone : List Node → Search → Type 0
IsDone nodes search = search.state ≡ Going → IsLast nodes search.at
