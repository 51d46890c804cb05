use Rattle.std.specs.Prelude.{pos}
use Rattle.lb_values.specs.declared.cell.Cell.TheVariants.{Size}
use Rattle.lb_values.specs.declared.reach.Reach.TheVariants.{Local}
use Rattle.lb_values.specs.declared.value.Value.TheVariants.{Number}
use Rattle.lb_model_nest.specs.declared.nest.ListKind.TheVariants.{MarkBox}
use Rattle.lb_model_nest.specs.Boxes.{list_opened}
use Rattle.lb_model_nest.specs.Wholes.{change}
use Rattle.lb_nest.proofs.LeadsLemmas.{leads-ended, leads-then}
use Rattle.lb_nest.proofs.boxes.open_small_box.Goals as goal

pub change-requires-clause-keeps : goal.change-requires-clause-keeps
change-requires-clause-keeps g c = (c.in_ok-went.ensures.goes 0).keeps

pub returns-in-On : goal.returns-in-On
returns-in-On g c =
    record { goes = λ left. leads-then (list_opened (MarkBox c.args.is_last)) (change Local Size (Number (pos 4))) c.change.result c.in-On.is (c.in_ok-went.ensures.goes left) (c.change.ensures.goes left) }

pub returns-in_default : goal.returns-in_default
returns-in_default g c =
    record { goes = λ left. leads-ended (list_opened (MarkBox c.args.is_last)) (change Local Size (Number (pos 4))) c.in_ok-went.went c.in_default.not-On (c.in_ok-went.ensures.goes left) }
