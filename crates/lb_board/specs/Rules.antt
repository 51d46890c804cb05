-- The rule of a board of n chapters: word 0 counts the draws, word 1 is the halt word, word c + 2 the mark of chapter c, and slot c is for what is
-- posted for it. A mark is 0 where the chapter is not posted, 1 where it is posted, 2 while it is being taken, and 3 once it was taken.
-- Every single step of every seat keeps the rule, so it holds between any two steps of any threads (interference freedom: Owicki and Gries,
-- An axiomatic proof technique for parallel programs I, 1976). That chapters are drawn by an add to a shared counter is self-scheduling
-- (Gottlieb, Lubachevsky and Rudolph, Basic techniques for the efficient coordination of very large numbers of cooperating sequential
-- processors, 1983).
use Rattle.std.specs.Prelude.{◌≡◌, ◌≢◌, ℕ, ◌+◌, ◌<◌, ◌≤◌, max, true, List, length, slice_index, Option, Some, None}
use mathlib.Core.Option.{some}
use lib.ListN.{get_elem?}
use Rattle.atomic_table.specs.Table.{State}
use Rattle.lb_board.specs.declared.view.View.{View}
use Rattle.lb_board.specs.Totals.{total}
use Rattle.lb_board.specs.Views.{allowed, calls, drawings, going, spent_view, takings}

-- what is so of one view, where the draw word and the marks are these
pub record ViewRules {P : Type 0} (plan : P) (n draws : ℕ) (mark : ℕ → ℕ) (v : View P) : Type 0 where
  pub planned : v.plan ≡ plan
  -- a drawn number is below the draw word, and is one of a chapter
  pub below : (c : ℕ) → 0 < drawings c v → (c < draws) × (c < n)
  -- what the seat holds it drew, and it is not posted
  pub holds : (c : ℕ) → v.held ≡ Some c → (0 < drawings c v) × (mark c ≡ 0)
  -- the chapter that it is taking is marked so
  pub takes : (c : ℕ) → v.taking ≡ Some c → (mark c ≡ 2) × (c < n)
  -- a seat without an allowance was joined to another
  pub spent : v.allowance ≡ 0 → v ≡ spent_view plan
  -- it finds no chapter left only where all were drawn, and then it holds none
  pub ended : v.no_more ≡ true → (n ≤ draws) × (v.held ≡ None)
  -- what it drew it posted, or holds
  pub marked : (c : ℕ) → 0 < drawings c v → v.held ≢ Some c → 1 ≤ mark c
  -- what it took is not posted any more, and is marked as taken once the seat is done with it
  pub had : (c : ℕ) → 0 < takings c v → (1 < mark c) × (c < n)
  pub done : (c : ℕ) → 0 < takings c v → v.taking ≢ Some c → mark c ≡ 3

abbrev pub mark_in : List ℕ → ℕ → ℕ
mark_in words c = slice_index words (c + 2)

-- slot c is at home and has a value that fits the chapter
abbrev pub Ready : {T P : Type 0} → (P → ℕ → T → Type 0) → P → List (mathlib.Core.Option.Option (Option T)) → ℕ → Type 0
Ready {T} fits plan homes c = (x : T) × (get_elem? homes c ≡ some (some (Some x))) × fits plan c x

pub record Rules {T P : Type 0} (fits : P → ℕ → T → Type 0) (plan : P) (n : ℕ) (s : State (Option T) (View P)) : Type 0 where
  pub wide : length s.words ≡ n + 2
  pub each : (i : ℕ) (v : View P) → get_elem? s.views i ≡ some v → ViewRules plan n (slice_index s.words 0) (mark_in s.words) v
  -- no number is drawn twice, over all seats
  pub once : (c : ℕ) → total (drawings c) s.views ≤ 1
  -- the draw word passes n by no more than the seats that may not draw any more have of the whole
  pub within : max (slice_index s.words 0) n + total going s.views ≤ n + 65536
  -- the board is halted exactly where a seat halted it, and found halted only there
  pub halt_bit : slice_index s.words 1 ≤ 1
  pub halt_called : slice_index s.words 1 ≡ 1 → 0 < total calls s.views
  pub halt_set : 0 < total calls s.views → slice_index s.words 1 ≡ 1
  pub halted_called : (i : ℕ) (v : View P) → get_elem? s.views i ≡ some v → v.halted ≡ true → 0 < total calls s.views
  -- a chapter that is still to be drawn is not posted, and its slot is at home and empty
  pub fresh : (c : ℕ) → slice_index s.words 0 ≤ c → c < n → (mark_in s.words c ≡ 0) × (get_elem? s.homes c ≡ some (some None))
  pub ready : (c : ℕ) → c < n → mark_in s.words c ≡ 1 → Ready fits plan s.homes c
  -- one seat at most is taking a chapter
  pub one_taker : (i j : ℕ) (v w : View P) (c : ℕ) → get_elem? s.views i ≡ some v → get_elem? s.views j ≡ some w
      → v.taking ≡ Some c → w.taking ≡ Some c → i ≡ j
  -- the whole is 2^16
  pub allowances : total allowed s.views ≡ 65536
  -- what was drawn, a seat drew
  pub drawn : (c : ℕ) → c < slice_index s.words 0 → c < n → 0 < total (drawings c) s.views
  -- what was taken, a seat took, and no two took
  pub taken : (c : ℕ) → c < n → 1 < mark_in s.words c → 0 < total (takings c) s.views
  pub taken_once : (c : ℕ) → total (takings c) s.views ≤ 1
