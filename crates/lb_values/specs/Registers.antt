-- The cells of registers and parameters that have names.
use Rattle.lb_values.specs.declared.cell.Cell.{Cell}
use Rattle.lb_values.specs.declared.cell.Cell.TheVariants as cell
use Rattle.lb_values.specs.declared.meaning.Register.{Register}
use Rattle.lb_values.specs.declared.meaning.Register.TheVariants.{Count, Dimen, Skip, Toks, Par}

abbrev pub register_cell : Register → Cell
register_cell (Count n) = cell.Count n
register_cell (Dimen n) = cell.Dimen n
register_cell (Skip n) = cell.Skip n
register_cell (Toks n) = cell.Toks n
register_cell (Par parameter) = cell.Par parameter
