-- The boxes of marks.
use Rattle.std.specs.Prelude.{Bool, pos}
use Rattle.lb_values.specs.declared.cell.Cell.TheVariants.{Size}
use Rattle.lb_values.specs.declared.reach.Reach.TheVariants.{Local}
use Rattle.lb_values.specs.declared.value.Value.TheVariants.{Number}
use Rattle.lb_model_nest.specs.declared.nest.ListKind.TheVariants as list
use Rattle.lb_model_nest.specs.Boxes.{list_opened}
use Rattle.lb_model_nest.specs.Wholes.{Executed, Whole, and_then, change}

-- the list of one, in the normal size
abbrev pub small_box_opened : Bool → Whole → Executed
small_box_opened is_last w = and_then (list_opened (list.MarkBox is_last) w) (change Local Size (Number (pos 4)))
