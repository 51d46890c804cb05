use Rattle.std.proofs.Common.{◌≡◌, map, take}
use Rattle.lb_files.proofs.memory.folder.names_of.Given as goal

abbrev pub invariant-loop-file : goal.invariant-loop-file
invariant-loop-file l = l.names ≡ map (λ e. e.0) (take l.file-index l.file-items)
