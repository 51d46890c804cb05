-- The values to which a cell may be set.
use Rattle.std.specs.Prelude.{◌≡◌, true}
use Rattle.lb_values.specs.declared.cell.Cell.{Cell}
use Rattle.lb_values.specs.declared.value.Value.{Value}
use Rattle.lb_model.specs.Ranges.{fits, is_settable}

pub record MaySet (cell : Cell) (v : Value) : Type 0 where
  pub settable : is_settable cell v ≡ true
  pub fits : fits cell v ≡ true
