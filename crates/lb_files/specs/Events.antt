-- The journal that an outlet's events make.
use Rattle.std.specs.Prelude.{List, [], ◌∷◌}
use Rattle.std.specs.List.{flat_map}
use Rattle.lb_model.specs.Journal.{Entry, Begun as BegunEntry, appended}
use Rattle.lb_files.specs.declared.memory.outlet.Event.{Event}
use Rattle.lb_files.specs.declared.memory.outlet.Event.TheVariants.{Begun, Put}

abbrev pub entries_of : Event → List Entry
entries_of (Begun file) = BegunEntry file ∷ []
entries_of (Put file bytes) = appended file bytes

abbrev pub journal_of : List Event → List Entry
journal_of events = flat_map entries_of events
