-- Effects of commands on cells, with looks before and behind them, and with answers seen by a function.
use Rattle.std.specs.Prelude.{◌++◌, List, [], Result, Ok, Err}
use Rattle.lb_base.specs.declared.fault.Kind.{Kind}
use Rattle.lb_values.specs.declared.cell.Cell.{Cell}
use Rattle.lb_model_counters.specs.Effects.{Effect}

-- cells are looked at before
abbrev pub looking : {X : Type 0} → List Cell → Effect X → Effect X
looking cells e = record { answer = e.answer; looks = cells ++ e.looks; changes = e.changes }

abbrev pub looks_behind : {X : Type 0} → Result X Kind → List Cell → List Cell
looks_behind (Ok x) cells = cells
looks_behind (Err kind) cells = []

-- and behind, where there is no fault
abbrev pub looking_behind : {X : Type 0} → Effect X → List Cell → Effect X
looking_behind e cells = record { answer = e.answer; looks = e.looks ++ looks_behind e.answer cells; changes = e.changes }

abbrev pub answer_seen : {X Y : Type 0} → (X → Y) → Result X Kind → Result Y Kind
answer_seen f (Ok x) = Ok (f x)
answer_seen f (Err kind) = Err kind

abbrev pub seen : {X Y : Type 0} → (X → Y) → Effect X → Effect Y
seen f e = record { answer = answer_seen f e.answer; looks = e.looks; changes = e.changes }
