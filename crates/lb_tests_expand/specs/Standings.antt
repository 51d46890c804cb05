-- What the calls of a case keep.
use Rattle.lb_model.specs.declared.cells.Cells.{Ghosts}
use Rattle.lb_model.specs.Settings.{Setting}
use Rattle.lb_model.specs.Stacked.{Standing}
use Rattle.lb_expand.specs.declared.feeder.Feeder.{Feeder}

-- as many saves stand as the open groups of a feeder have made
abbrev pub Stands : {S : Type 0} → Ghosts S → Feeder S → Type 0
Stands C feeder = (p : Setting) → C.agrees feeder.cells.now p → Standing feeder.desk.now.groups (C.meaning feeder.cells.now p)
