-- What a list of things to be done puts into a journal.
use Rattle.std.specs.Prelude.{[], ◌∷◌, List}
use Rattle.lb_model.specs.Journal.{Entry, Begun, appended}
use Rattle.lb_run.specs.declared.writes.Write.{Write}
use Rattle.lb_run.specs.declared.writes.Write.TheVariants.{Begin, Append}

abbrev pub entries_of : Write → List Entry
entries_of (Begin file) = Begun file ∷ []
entries_of (Append file bytes) = appended file bytes
