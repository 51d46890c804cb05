-- What each kind of step tells: of the step, the seat before, the number found and the seat after.
use Rattle.std.specs.Prelude.{◌≡◌, ◌≢◌, ℕ, ◌-◌, ◌<◌, ◌≤◌, true, false, ◌∷◌, Option, Some, None}
use Rattle.atomic_table.specs.Table.{Me, Step, rest}
use Rattle.lb_board.specs.declared.view.View.{View}
use Rattle.lb_board.specs.Totals.{times}
use Rattle.lb_board.specs.Views.{IsLast, with_called, with_drawn, with_halted, with_missed, with_no_more, with_nothing, with_posted, with_taking}

-- a seat: its view, and the slots that are out with it
abbrev pub Seat : Type 0 → Type 0 → Type 0
Seat T P = Me (Option T) (View P)

module _ {T P : Type 0} where
  -- a load of the halt word: a seat that halted the board finds it set
  abbrev pub saw_halt : Step (Option T) → Seat T P → ℕ → Seat T P → Type 0
  saw_halt st m r m' = (r ≡ 1 → m' ≡ (with_halted m.0, m.1)) × (r ≢ 1 → (m' ≡ m) × (m.0.called ≡ false))

  -- an add to the draw word: a number is above all that the seat drew before
  abbrev pub drew : Step (Option T) → Seat T P → ℕ → Seat T P → Type 0
  drew st m r m' =
      (r < st.slots → (m' ≡ (with_drawn r m.0, (r, None) ∷ m.1)) × ((x : ℕ) → 0 < times x m.0.drawn → x < r))
      × (st.slots ≤ r → m' ≡ (with_no_more m.0, m.1))

  -- a swap of a mark to 1
  abbrev pub posted : Step (Option T) → Seat T P → ℕ → Seat T P → Type 0
  posted st m r m' = m' ≡ (with_posted m.0, rest m.1)

  -- a compare and exchange of a mark from 1 to 2: the seat did not take the chapter before, and has its slot now, with a value that fits; or
  -- it found no 1, and where it is the last it took the chapter before
  abbrev pub took : (P → ℕ → T → Type 0) → P → Step (Option T) → Seat T P → ℕ → Seat T P → Type 0
  took fits plan st m r m' =
      (r ≡ st.first → (x : T) × (m' ≡ (with_taking (st.word - 2) m.0, (st.word - 2, Some x) ∷ m.1)) × fits plan (st.word - 2) x
      × (times (st.word - 2) m.0.taken ≡ 0))
      × (r ≢ st.first → (m' ≡ (with_missed (st.word - 2) m.0, m.1)) × (IsLast m.0 → 0 < times (st.word - 2) m.0.taken))

  -- a swap of a mark to 3
  abbrev pub emptied : Step (Option T) → Seat T P → ℕ → Seat T P → Type 0
  emptied st m r m' = m' ≡ (with_nothing m.0, rest m.1)

  -- an or of the halt word
  abbrev pub called : Step (Option T) → Seat T P → ℕ → Seat T P → Type 0
  called st m r m' = m' ≡ (with_called m.0, m.1)

  -- a load behind a join: no number stands twice in what the seat drew, nor in what it took; it has no more than the whole, and where it has
  -- that, it was halted only where it halted the board
  abbrev pub learned : Step (Option T) → Seat T P → ℕ → Seat T P → Type 0
  learned st m r m' =
      (m' ≡ m) × ((c : ℕ) → times c m.0.drawn ≤ 1) × ((c : ℕ) → times c m.0.taken ≤ 1) × (m.0.allowance ≤ 65536)
      × (m.0.allowance ≡ 65536 → m.0.halted ≡ true → m.0.called ≡ true)
