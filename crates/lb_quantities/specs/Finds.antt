-- What a call found that asks what begins with a token, and what it keeps.
use Rattle.std.specs.Prelude.{◌≡◌, List, [], unwrap_or, Result, IfOk, OnOk}
use Rattle.std.specs.Option.{option_map}
use Rattle.lb_values.specs.declared.cell.Cell.{Cell}
use Rattle.lb_model.specs.declared.cells.Cells.{Ghosts}
use Rattle.lb_model.specs.declared.world.World.{World}
use Rattle.lb_model.specs.Quantities.{Internal}
use Rattle.lb_model.specs.Quantities.Internal.{Known as TheKnown, Tokens as TheTokens, Picked as ThePicked, OfCounter as TheCounter}
use Rattle.lb_model.specs.Settings.{Setting, State, noted_all}
use Rattle.lb_quantities.specs.declared.found.Found.{Found}
use Rattle.lb_quantities.specs.declared.found.Found.TheVariants.{Known, Tokens, Picked, OfCounter}

-- what was found, as what begins with a token
abbrev pub internal_of : Found → Internal
internal_of (Known quantity) = TheKnown quantity
internal_of (Tokens toks) = TheTokens (unwrap_or toks [])
internal_of (Picked indexed) = ThePicked indexed
internal_of OfCounter = TheCounter

-- a call that tells what begins with a token, and looks at these cells. What is now stands before what was
pub record Finds {S E : Type 0} (C : Ghosts S) (quantity : World → State → Internal) (looks : List Cell) (result : Result Found E) (new old : S) : Type 0 where
  pub narrows : (p : Setting) → C.agrees new p → C.agrees old p
  pub value : IfOk result (λ found. (p : Setting) → C.agrees new p → quantity p.world (C.meaning old p).now ≡ internal_of found)
  pub stays : (p : Setting) → C.agrees new p → C.meaning new p ≡ C.meaning old p
  pub notes : OnOk result (C.notes new ≡ option_map (noted_all looks) (C.notes old))
  pub made : C.made new ≡ C.made old
  pub loan : C.loan new ≡ C.loan old
