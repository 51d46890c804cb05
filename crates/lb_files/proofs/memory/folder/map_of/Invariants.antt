use Rattle.std.proofs.Common.{◌≡◌, ◌++◌, List, ℕ, vec_len}
use Rattle.std.specs.FinMap as map
use Rattle.lb_files.proofs.memory.folder.map_of.Given as goal

abbrev pub invariant-loop-name : goal.invariant-loop-name
invariant-loop-name l = (done : List (List ℕ × List ℕ)) × (l.fn.files ≡ l.rest.items ++ done) × (l.made ≡ map.from_entries done)

abbrev pub decreases-loop-name : goal.decreases-loop-name
decreases-loop-name l = vec_len l.rest
