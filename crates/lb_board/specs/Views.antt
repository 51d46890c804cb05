-- What seats know, and how calls change it. Whatever is not named stays.
use Rattle.std.specs.Prelude.{◌≡◌, ℕ, ◌+◌, ◌-◌, ◌/◌, true, false, cond, ◌||◌, [], ◌∷◌, ◌++◌, Some, None}
use Rattle.lb_board.specs.declared.view.View.{View}
use Rattle.lb_board.specs.Totals.{bit, times}

module _ {P : Type 0} where
  -- how often the seat drew the chapter
  abbrev pub drawings : ℕ → View P → ℕ
  drawings c v = times c v.drawn

  -- how often it took the chapter
  abbrev pub takings : ℕ → View P → ℕ
  takings c v = times c v.taken

  -- 1 where it halted the board
  abbrev pub calls : View P → ℕ
  calls v = bit v.called

  abbrev pub allowed : View P → ℕ
  allowed v = v.allowance

  -- the part of the whole with which chapters may yet be drawn
  abbrev pub going : View P → ℕ
  going v = cond v.no_more 0 (cond v.halted 0 v.allowance)

  -- no other seat is left, and this one found no chapter left
  abbrev pub IsLast : View P → Type 0
  IsLast v = (v.allowance ≡ 65536) × (v.no_more ≡ true)

  abbrev pub idle_view : P → ℕ → View P
  idle_view plan k =
      record { plan = plan; drawn = []; no_more = false; halted = false; called = false; allowance = k; held = None; taking = None; taken = []; missed = [] }

  -- the seat that a board is made with
  abbrev pub first_view : P → View P
  first_view plan = idle_view plan 65536

  -- a seat that was joined to another
  abbrev pub spent_view : P → View P
  spent_view plan = idle_view plan 0

  -- it drew the chapter and holds it
  abbrev pub with_drawn : ℕ → View P → View P
  with_drawn c v = record v { drawn = c ∷ v.drawn; held = Some c }

  -- it found no chapter left
  abbrev pub with_no_more : View P → View P
  with_no_more v = record v { no_more = true }

  -- it found the board halted
  abbrev pub with_halted : View P → View P
  with_halted v = record v { halted = true }

  -- it posted what it held
  abbrev pub with_posted : View P → View P
  with_posted v = record v { held = None }

  -- it has begun to take the chapter
  abbrev pub with_taking : ℕ → View P → View P
  with_taking c v = record v { taking = Some c; taken = c ∷ v.taken }

  -- it is done with taking
  abbrev pub with_nothing : View P → View P
  with_nothing v = record v { taking = None }

  -- it took the chapter
  abbrev pub with_taken : ℕ → View P → View P
  with_taken c v = record v { taken = c ∷ v.taken }

  -- it found that the chapter is not posted
  abbrev pub with_missed : ℕ → View P → View P
  with_missed c v = record v { missed = c ∷ v.missed }

  -- it halted the board
  abbrev pub with_called : View P → View P
  with_called v = record v { called = true }

  -- a seat that was split keeps the greater half
  abbrev pub left_half : View P → View P
  left_half v = record v { allowance = v.allowance - v.allowance / 2 }

  -- the new seat has the other half, and knows what was found
  abbrev pub right_half : View P → View P
  right_half v = record (idle_view v.plan (v.allowance / 2)) { no_more = v.no_more; halted = v.halted }

  -- a seat to which another was joined has and knows what both did
  abbrev pub both : View P → View P → View P
  both v w =
      record {
        plan = v.plan;
        drawn = v.drawn ++ w.drawn;
        no_more = v.no_more || w.no_more;
        halted = v.halted || w.halted;
        called = v.called || w.called;
        allowance = v.allowance + w.allowance;
        held = v.held;
        taking = v.taking;
        taken = v.taken ++ w.taken;
        missed = v.missed ++ w.missed;
      }
