-- What calls over a feeder do. What is now stands before what was.
use Rattle.std.specs.Prelude.{Result}
use Rattle.lb_model.specs.declared.cells.Cells.{Ghosts}
use Rattle.lb_model.specs.Configs.{Config}
use Rattle.lb_model.specs.Quantities.{Internal}
use Rattle.lb_model_expansion.specs.Steps.{Performed}
use Rattle.lb_model_expansion.specs.declared.expansion.Went.{Went}
use Rattle.lb_expand.specs.Closings.{Closes, Turns}
use Rattle.lb_expand.specs.Performs.{Performs}
use Rattle.lb_expand.specs.declared.closing.Closed.{Closed}
use Rattle.lb_expand.specs.declared.feeder.Feeder.{Feeder}

-- this is done
abbrev pub PerformsOver : {S E : Type 0} → Ghosts S → (Config → Performed) → Result Went E → Feeder S → Feeder S → Type 0
PerformsOver C act result new old = Performs C act result new.cells.now new.desk.now old.cells.now old.desk.now

-- a reading closes
abbrev pub ClosesOver : {S E : Type 0} → Ghosts S → ((Internal → Config → Performed) → Config → Performed) → Result Closed E → Feeder S → Feeder S → Type 0
ClosesOver C act result new old = Closes C act result new.cells.now new.desk.now old.cells.now old.desk.now

-- this is done, up to what is done with a quantity that is handed on
abbrev pub TurnsOver : {S E : Type 0} → Ghosts S → (Config → Performed) → Result Closed E → Feeder S → Feeder S → Type 0
TurnsOver C act result new old = Turns C act result new.cells.now new.desk.now old.cells.now old.desk.now
