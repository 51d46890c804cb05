-- The entries that an outlet keeps one by one.
use Rattle.std.specs.Prelude.{ℕ, List, [], ◌<◌, length, map, All, slice_index_or}
use Rattle.lb_model.specs.Journal.{Entry, Begun as BegunEntry, Byte as ByteEntry}
use Rattle.lb_files.specs.Texts.{Keeps}
use Rattle.lb_files.specs.declared.memory.sure_outlet.Step.{Step}
use Rattle.lb_files.specs.declared.memory.sure_outlet.Step.TheVariants.{Begun, Byte, Stray}

-- the entry that a step is, where these are the names of the files that were begun
abbrev pub entry_of : List (List ℕ) → Step → Entry
entry_of names (Begun at) = BegunEntry (slice_index_or names at [])
entry_of names (Byte at b) = ByteEntry (slice_index_or names at []) b
entry_of names (Stray file b) = ByteEntry file b

-- The file of the step is one of so many.
abbrev pub IsOf : ℕ → Step → Type 0
IsOf n (Begun at) = at < n
IsOf n (Byte at b) = at < n
IsOf n (Stray file b) = Unit {0}

-- The texts follow the entries of the steps, and the file of each step has a name here.
pub record KeepsSteps (steps : List Step) (names texts : List (List ℕ)) : Type 0 where
  pub keeps : Keeps (map (entry_of names) steps) names texts
  pub within : All (IsOf (length names)) steps
