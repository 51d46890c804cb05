-- When two cells are one.
use Rattle.std.specs.Prelude.{Bool}
use Rattle.lb_values.specs.declared.cell.Cell.{Cell}
use Rattle.lb_values.specs.contracts.cell.CellPartialEq.TheImpl as the_test

-- whether two cells are one
unfoldable pub cell_eq : Cell → Cell → Bool
cell_eq = (the_test.ghosts).eq
