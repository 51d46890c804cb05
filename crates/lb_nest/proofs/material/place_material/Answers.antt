use Rattle.lb_nest.proofs.LeadsLemmas.{leads-as}
use Rattle.lb_nest.specs.Lists.{material_placed}
use Rattle.lb_nest.proofs.material.place_material.Goals as goal

pub returns-in-Part : goal.returns-in-Part
returns-in-Part g c = record { goes = leads-as material_placed c.place_part.result c.in-Part.is (c.place_part.ensures.goes c.args.left.now) }
