-- The checkpoint of a state: its counters (source2e, file ltfiles).
use Rattle.std.specs.Prelude.{ℕ, ℤ, List, [], ◌∷◌, map, unwrap_or}
use Rattle.lb_values.specs.declared.cell.Cell.{Cell}
use Rattle.lb_values.specs.declared.cell.Cell.TheVariants.{Counter, Counters}
use Rattle.lb_model.specs.declared.world.World.{World}
use Rattle.lb_model.specs.Kinds.{names_of, number_of}
use Rattle.lb_model.specs.Settings.{State, look}
use Rattle.lb_model_journal.specs.Written.{checkpoint_lines}

-- the counters that stand in it
abbrev pub counter_names : World → State → List (List ℕ)
counter_names w s = unwrap_or (names_of (look w s Counters)) []

-- each with its number, 0 where it has none
abbrev pub numbered : World → State → List ℕ → List ℕ × ℤ
numbered w s name = (name, number_of (look w s (Counter name)))

abbrev pub checkpoint_in : World → State → List ℕ → List ℕ
checkpoint_in w s chapter = checkpoint_lines chapter (map (numbered w s) (counter_names w s))

-- the cells that are looked at for it, in order
abbrev pub looks_of_checkpoint : World → State → List Cell
looks_of_checkpoint w s = Counters ∷ map Counter (counter_names w s)
