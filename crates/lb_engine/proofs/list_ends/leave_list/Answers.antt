use Rattle.lb_engine.proofs.LeadsLemmas.{leads-ended, leads-then}
use Rattle.lb_model_nest.specs.Wholes.{put}
use Rattle.lb_nest.specs.Lists.{material_placed}
use Rattle.lb_engine.proofs.list_ends.leave_list.Goals as goal

pub returns-in-On : goal.returns-in-On
returns-in-On g c = record { goes = leads-then (put c.args.toks) (material_placed c.args.material) c.place_material.result c.in-On.is c.in_ok-went.ensures.goes c.place_material.ensures.goes }

pub returns-in_default : goal.returns-in_default
returns-in_default g c = record { goes = leads-ended (put c.args.toks) (material_placed c.args.material) c.in_ok-went.went c.in_default.not-On c.in_ok-went.ensures.goes }
