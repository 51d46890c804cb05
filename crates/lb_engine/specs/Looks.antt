-- Cells that rows look at.
use Rattle.std.specs.Prelude.{[], ◌∷◌}
use Rattle.lb_values.specs.declared.cell.Cell.{Cell}
use Rattle.lb_values.specs.declared.value.Value.{Value}
use Rattle.lb_model_nest.specs.Wholes.{Executed, Whole, looking, tells}

-- this is done with what a cell tells
abbrev pub look_at : {X : Type 0} → Cell → (Value → X) → (X → Whole → Executed) → Whole → Executed
look_at cell f row w = looking (cell ∷ []) (row (f (tells w cell)) w)
