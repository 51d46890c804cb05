-- What every call over cells keeps. In each of these words what is now stands before what was.
use Rattle.std.specs.Prelude.{◌≡◌, Result, IfOk, OnOk, OnErr}
use Rattle.std.specs.Option.{option_map}
use Rattle.lb_values.specs.declared.cell.Cell.{Cell}
use Rattle.lb_values.specs.declared.value.Value.{Value}
use Rattle.lb_model.specs.Settings.{Setting, look, noted}
use Rattle.lb_model.specs.declared.cells.Cells.{Ghosts}

-- cells that only told
pub record Told {S : Type 0} (C : Ghosts S) (new old : S) : Type 0 where
  pub narrows : (p : Setting) → C.agrees new p → C.agrees old p
  pub stays : (p : Setting) → C.agrees new p → C.meaning new p ≡ C.meaning old p
  pub made : C.made new ≡ C.made old
  pub loan : C.loan new ≡ C.loan old

-- cells that told and changed
pub record Traced {S : Type 0} (C : Ghosts S) (new old : S) : Type 0 where
  pub narrows : (p : Setting) → C.agrees new p → C.agrees old p
  pub made : C.made new ≡ C.made old
  pub loan : C.loan new ≡ C.loan old

-- a call that asks one cell: what it tells, seen by f
pub record Tells {S X E : Type 0} (C : Ghosts S) (cell : Cell) (f : Value → X) (result : Result X E) (new old : S) : Type 0 where
  pub narrows : (p : Setting) → C.agrees new p → C.agrees old p
  pub value : IfOk result (λ v. (p : Setting) → C.agrees new p → f (look p.world (C.meaning old p).now cell) ≡ v)
  pub stays : (p : Setting) → C.agrees new p → C.meaning new p ≡ C.meaning old p
  pub notes : OnOk result (C.notes new ≡ option_map (noted cell) (C.notes old))
  pub notes_on_err : OnErr result (C.notes new ≡ C.notes old)
  pub made : C.made new ≡ C.made old
  pub loan : C.loan new ≡ C.loan old
