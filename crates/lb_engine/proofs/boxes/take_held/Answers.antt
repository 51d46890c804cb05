use Rattle.lb_engine.proofs.LeadsLemmas.{leads-ended, leads-then}
use Rattle.lb_model_nest.specs.Boxes.{placed}
use Rattle.lb_model_nest.specs.Wholes.{change}
use Rattle.lb_values.specs.declared.reach.Reach.TheVariants.{Local}
use Rattle.std.proofs.Common.{refl}
use Rattle.lb_values.specs.declared.cell.Cell.TheVariants as cell
use Rattle.lb_values.specs.declared.value.Value.TheVariants as value
use Rattle.lb_engine.proofs.boxes.take_held.Goals as goal

pub change-requires : goal.change-requires
change-requires g c = record { settable = refl; fits = λ p h s. refl; holds = c.requires.holds }

pub returns-in-On : goal.returns-in-On
returns-in-On g c = record { goes = leads-then (change Local (cell.Boxed c.args.number) value.Absent) (placed c.args.context c.args.held) c.place.result c.in-On.is c.in_ok-went.ensures.goes c.place.ensures.goes }

pub returns-in_default : goal.returns-in_default
returns-in_default g c = record { goes = leads-ended (change Local (cell.Boxed c.args.number) value.Absent) (placed c.args.context c.args.held) c.in_ok-went.went c.in_default.not-On c.in_ok-went.ensures.goes }
