-- Why a folder is not loaded.
use Rattle.std.specs.Prelude.{ℕ}
use Rattle.lb_model.specs.Causes.{Rose}
use Rattle.lb_files.specs.declared.loading.LoadStop.{LoadStop}
use Rattle.lb_files.specs.declared.loading.LoadStop.TheVariants.{Memory as MemoryStop, ReadFault, TooLarge}
use Rattle.lb_files.specs.declared.outside.FolderStop.{FolderStop}
use Rattle.lb_files.specs.declared.outside.FolderStop.TheVariants.{Memory, Failed}

-- Memory may fail at any time, a fault of reading only where the count of faults rose, and nothing is too large.
abbrev pub MayStop : ℕ → ℕ → LoadStop → Type 0
MayStop before now MemoryStop = Unit {0}
MayStop before now ReadFault = Rose before now
MayStop before now (TooLarge what n) = ⊥

-- what a folder's own reason is called here
abbrev pub load_stop : FolderStop → LoadStop
load_stop Memory = MemoryStop
load_stop Failed = ReadFault
