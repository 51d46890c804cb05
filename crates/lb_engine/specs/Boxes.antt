-- How lists of boxes are opened, and which box is asked for.
use Rattle.std.specs.Prelude.{Bool, true, false}
use Rattle.lb_base.specs.declared.fault.Kind.TheVariants.{TokenMisplaced}
use Rattle.lb_model_engine.specs.Boxes.{box_begun, box_copied, box_taken}
use Rattle.lb_model_nest.specs.declared.nest.BoxContext.{BoxContext}
use Rattle.lb_model_nest.specs.declared.nest.ListKind.{ListKind}
use Rattle.lb_model_nest.specs.Boxes.{list_opened}
use Rattle.lb_model_nest.specs.Wholes.{Executed, Whole, stop}
use Rattle.lb_engine.specs.declared.wanted_boxes.Wanted.{Wanted}
use Rattle.lb_engine.specs.declared.wanted_boxes.Wanted.TheVariants as wanted

-- a list is opened where a brace was found
abbrev pub opened_if : Bool → ListKind → Whole → Executed
opened_if true kind w = list_opened kind w
opened_if false kind w = stop TokenMisplaced w

-- the box that a row asks for
abbrev pub wanted_to : Wanted → BoxContext → Whole → Executed
wanted_to (wanted.Begun axis) context w = box_begun axis context w
wanted_to wanted.Taken context w = box_taken context w
wanted_to wanted.Copied context w = box_copied context w
wanted_to wanted.Nothing context w = stop TokenMisplaced w
