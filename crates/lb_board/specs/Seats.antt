-- What clauses say of a board, of its seats and of a draw.
use Rattle.std.specs.Prelude.{◌≡◌, ℕ, ◌<◌, false, List, [], ◌∷◌, Option, Some, None, IfSome}
use Rattle.lb_board.specs.declared.view.View.{View}
use Rattle.lb_board.specs.declared.board.Board.{Board}
use Rattle.lb_board.specs.declared.board.BoardSeat.{BoardSeat}
use Rattle.lb_board.specs.declared.drawn.Drawn.{Drawn}
use Rattle.lb_board.specs.declared.drawn.Drawn.TheVariants.{Chapter, NoMore, Halted}
use Rattle.lb_board.specs.Totals.{times}
use Rattle.lb_board.specs.Views.{with_drawn, with_halted, with_no_more}

-- the slots that are out with a seat that holds this
abbrev pub out : {T : Type 0} → Option ℕ → List (ℕ × Option T)
out None = []
out (Some c) = (c, None) ∷ []

abbrev pub seat_view : {T P : Type 0} → BoardSeat T P → View P
seat_view s = s.seat.me.0

module _ {T P : Type 0} where
  abbrev pub board_chapters : Board T P → ℕ
  board_chapters b = b.chapters

  -- a seat of this board, between two calls
  pub record IsSeatOf (b : Board T P) (s : BoardSeat T P) : Type 0 where
    pub table : s.seat.table_id ≡ b.table.shared.table_id
    -- the slot of the chapter that it holds is out with it, and no other
    pub slots : s.seat.me.1 ≡ out s.seat.me.0.held
    pub taking : s.seat.me.0.taking ≡ None
    -- it was not joined to another
    pub live : 0 < s.seat.me.0.allowance
    pub within : IfSome s.seat.me.0.held (λ c. c < b.chapters)

module _ {P : Type 0} where
  -- what a draw gives, over so many chapters, and what the seat knows after it: a chapter has its ticket, and is above all that the seat drew
  -- before; a seat that halted the board has Halted
  abbrev pub Draws : ℕ → View P → Drawn → View P → Type 0
  Draws n v (Chapter c t) w = (c < n) × (t.piece ≡ c) × ((x : ℕ) → 0 < times x v.drawn → x < c) × (w ≡ with_drawn c v) × (v.called ≡ false)
  Draws n v NoMore w = (w ≡ with_no_more v) × (v.called ≡ false)
  Draws n v Halted w = w ≡ with_halted v
